-- What is kept of each producer: its last few accepted batches, in a table of rings.
use Rattle.std.specs.Prelude.{◌≡◌, ◌++◌, ◌==◌, ◌||◌, ◌≤◌, ℕ, nat_eq, Bool, false, IsTrue, IfSome, List, [], ◌∷◌, length, map, Option, Some, None, unwrap_or, if◌then◌else◌, refl}
use Rattle.std.specs.Coded.{Coded, code_by, coded×, coded_bool, coded_list, coded_ℕ}
use Rattle.std.specs.FinMap.{FinMap, code, contains_key, empty, from_entries, get, insert}
use Rattle.std.specs.HashMap.{HashMap, get_by}
use Rattle.std.specs.Ordering.{nat_cmp}
use Rattle.circular_buffer.specs.Buffer.{Buffer, buffer, keep_last}
use Rattle.kob_producers.specs.Judge.{Idem, Sent, memory_length}

-- by the producer's id, its last batches in the order in which they were accepted
abbrev pub Recent : Type 0
Recent = FinMap nat_cmp (List Sent)

-- the batches kept of one producer: none, where it is not there
abbrev pub sent_by : Recent → ℕ → List Sent
sent_by recent producer = unwrap_or (get recent producer) []

-- what is kept of a batch of so many records that was accepted at an offset
abbrev pub sent_batch : Idem → ℕ → ℕ → Sent
sent_batch idem count offset =
    record { epoch = idem.epoch; base = idem.base; count = count; offset = offset }

-- after one more batch, accepted at an offset
abbrev pub recent_after : Recent → Idem → ℕ → ℕ → Recent
recent_after recent idem count offset =
    insert recent idem.id
    (keep_last memory_length (sent_by recent idem.id ++ sent_batch idem count offset ∷ []))

-- the last few batches of each producer's history are kept, whatever came before them
abbrev pub Keeps : (ℕ → List Sent) → Recent → Type 0
Keeps histories recent =
    (producer : ℕ) → sent_by recent producer ≡ keep_last memory_length (histories producer)

-- the histories after one more batch, accepted at an offset
abbrev pub with_sent : (ℕ → List Sent) → Idem → ℕ → ℕ → ℕ → List Sent
with_sent histories idem count offset producer =
    if producer == idem.id then histories producer ++ sent_batch idem count offset ∷ []
    else histories producer

-- the batches kept of each producer, and whether one that has none yet can be put in
pub record TableKept : Type 0 where
  pub recent : Recent
  pub ready : Bool

abbrev pub sent_code : Coded Sent
sent_code = code_by (ℕ × (ℕ × (ℕ × ℕ))) (coded× coded_ℕ (coded× coded_ℕ (coded× coded_ℕ coded_ℕ)))
    (λ s. (s.epoch, (s.base, (s.count, s.offset))))
    (λ p. record { epoch = p.0; base = p.1.0; count = p.1.1.0; offset = p.1.1.1 }) (λ _. refl)

abbrev pub table_code : Coded TableKept
table_code = code_by (Recent × Bool) (coded× (code coded_ℕ (coded_list sent_code)) coded_bool)
    (λ t. (t.recent, t.ready)) (λ p. record { recent = p.0; ready = p.1 }) (λ _. refl)

-- what a table shows that has rings, or none yet
abbrev pub table_of : Option TableKept → TableKept
table_of None = record { recent = empty; ready = false }
table_of (Some kept) = kept

-- a batch of the producer can be put in
abbrev pub CanAccept : TableKept → ℕ → Type 0
CanAccept kept producer = IsTrue (contains_key kept.recent producer || kept.ready)

-- the batches in rings
abbrev pub recent_in : List (ℕ × Buffer Sent) → Recent
recent_in rings = from_entries (map (λ entry. (entry.0, entry.1.items)) rings)

-- a ring for the batches of a producer
pub record IsRing (ring : Buffer Sent) : Type 0 where
  pub capacity : ring.capacity ≡ memory_length
  pub within : length ring.items ≤ memory_length

-- a ring for a producer that has no batch yet
abbrev pub IsFresh : Buffer Sent → Type 0
IsFresh ring = ring ≡ buffer [] memory_length

-- each producer has a ring
abbrev pub HasRings : {S : Type 0} → HashMap ℕ (Buffer Sent) S → Type 0
HasRings rings = (producer : ℕ) → IfSome (get_by (nat_eq producer) rings) (λ ring. IsRing ring)
