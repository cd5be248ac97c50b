-- Two events of one aggregate, and where they go: for the example of a history.
use Rattle.kob_delivery.proofs.ExampleWords.{AllByRecursion, Batch, Change, Event, Global, Hand, IsAscii, IsUtf8-from_ascii, List, OutboxEvent, Place, Producer, Record, Some, String, Target, [], arith, batch_of, bytes_eq, codes, dispatch_of, false, id_text, null_ptr, refl, stored_event, suc, carried_id, zero, ℕ, ◌<◌, ◌∷◌, ◌≡◌}
use Rattle.bstr.proofs.Computing.{computing}
use Rattle.uuid.specs.Text.{by_index}
use Rattle.kob_router.specs.declared.settings.RouteBy.TheVariants as by

-- a text of one letter

abbrev heap : Global
heap = record { memory = record { seal = tt } }

pub ascii : (bs : List ℕ) → AllByRecursion (λ b. b < 128) bs → IsAscii bs
ascii [] h i = omega arith
ascii (b ∷ bs) h zero = h.0
ascii (b ∷ bs) h (suc i) = ascii bs h.1 i

abbrev letter : (b : ℕ) → b < 128 → String Global
letter b small = record {
  bytes = record {
    ptr = null_ptr;
    len = 1;
    cap = 1;
    alloc = heap;
    items = b ∷ [];
    ok = (refl, omega arith);
    small = omega arith;
  };
  ok = ∣ IsUtf8-from_ascii (b ∷ []) (ascii (b ∷ []) (small, tt)) ∣₁;
}

-- two events of one aggregate

abbrev pub id_of : ℕ → List ℕ
id_of n = 0 ∷ 0 ∷ 0 ∷ 0 ∷ 0 ∷ 0 ∷ 0 ∷ 0 ∷ 0 ∷ 0 ∷ 0 ∷ 0 ∷ 0 ∷ 0 ∷ 0 ∷ n ∷ []

abbrev pub change : Change
change = record { kind = letter 97 (omega arith); id = letter 98 (omega arith); state = letter 115 (omega arith) }

abbrev pub event : ℕ → OutboxEvent
event n = record {
  id = id_of n;
  aggregate_type = letter 97 (omega arith);
  aggregate_id = letter 98 (omega arith);
  event_type = letter 99 (omega arith);
  payload = letter 112 (omega arith);
}

-- the n-th row is the n-th event
abbrev pub row : ℕ → Event
row n = stored_event n (event n)

pub first_is_new : bytes_eq (id_text (id_of 2)) (id_text (id_of 1)) ≡ false
unfolding by_index
first_is_new = refl

pub second_is_new : bytes_eq (id_text (id_of 1)) (id_text (id_of 2)) ≡ false
unfolding by_index
second_is_new = refl

-- where they go

abbrev pub target : Target
target = record { route = record { by = by.AggregateType; template = codes "t"; placement = [] }; partitions = 1 }

abbrev pub here : Place
here = record { topic = codes "t"; partition = 0 }

abbrev pub message : ℕ → Record
message n = record {
  key = Some (codes "b");
  value = codes "p";
  headers = record { name = codes "id"; value = id_text (id_of n) } ∷ [];
}

pub goes_here : (n : ℕ) → dispatch_of target (row n) ≡ Some (record { place = here; message = message n })
unfolding computing
goes_here n = refl

abbrev pub held : ℕ → Hand
held n = record { event = row n; place = here }

abbrev pub producer : ℕ → Producer
producer n = record { id = n; epoch = 0 }

-- the producer's batch with this sequence, of the n-th row
abbrev pub batch : Producer → ℕ → ℕ → Batch
batch p base n = batch_of p base (message n)

pub first_told : carried_id (message 1) ≡ Some (id_text (id_of 1))
unfolding by_index
first_told = refl

pub second_told : carried_id (message 2) ≡ Some (id_text (id_of 2))
unfolding by_index
second_told = refl
