-- What becomes of the row in hand where others write and sweep the outbox.
use Rattle.kob_connections.proofs.Words.{Change, Contents, Err, Hand, HoldsFirst, IsFirst, List, None, Ok, OnErr, OnOk, Option, OutboxEvent, OutboxFault, RecordFault, Relayed, Result, Some, [], after_record, arith, filter-append, later_than, nat_tests, refl, slice_get, swept_waits, take, without_sent, ℕ, ◌++◌, ◌∷◌, subst, sym, ◌≡◌}
use Rattle.kob_outbox.specs.Contents.{Event, Key, with_state}
use Rattle.kob_router.specs.Tick.{hand_of}
use Rattle.std.specs.Prelude.{option_map}

first_stays : (xs ys : List Event) (x : Event) → slice_get xs 0 ≡ Some x → slice_get (xs ++ ys) 0 ≡ Some x
first_stays [] ys x first = cc
first_stays (y ∷ xs) ys x first = first

pub first_recorded : (hand : Option Hand) (c : Contents) (change : Change) (event : OutboxEvent) → IsFirst hand c
    → IsFirst hand (after_record c change event)
first_recorded None c change event first = tt
first_recorded (Some hand) c change event first = grind (arith, nat_tests, filter-append, first_stays)

first_of_one : (xs : List Event) → slice_get xs 0 ≡ slice_get (take 1 xs) 0
first_of_one [] = refl
first_of_one (x ∷ xs) = refl

pub first_swept : (hand : Option Hand) (c : Contents) → IsFirst hand c → IsFirst hand (without_sent c.mark c)
first_swept None c first = tt
first_swept (Some hand) c first =
    grind (
      arith,
      nat_tests,
      first_of_one (later_than c.mark (without_sent c.mark c).events),
      swept_waits c 1,
      first_of_one (later_than c.mark c.events),
    )

-- a row that is recorded comes after the first
pub holds_recorded : (old : Relayed) (now : Contents) (change : Change) (event : OutboxEvent)
    (result : Result ℕ RecordFault) → HoldsFirst old → OnOk result (now ≡ after_record old.outbox change event)
    → OnErr result (now ≡ old.outbox) → HoldsFirst (record old { outbox = now })
holds_recorded old now change event (Ok seq) holds is stays = grind (arith, nat_tests, first_recorded)
holds_recorded old now change event (Err fault) holds is stays = grind (arith, nat_tests)

-- a sweep keeps the rows after the mark
pub holds_swept : (old : Relayed) (now : Contents) (result : Result ℕ OutboxFault) → HoldsFirst old
    → OnOk result (now ≡ without_sent old.outbox.mark old.outbox) → OnErr result (now ≡ old.outbox)
    → HoldsFirst (record old { outbox = now })
holds_swept old now (Ok count) holds is stays = grind (arith, nat_tests, first_swept)
holds_swept old now (Err fault) holds is stays = grind (arith, nat_tests)

first_stated : (hand : Option Hand) (c : Contents) (key : Key) (state : List ℕ) → IsFirst hand c
    → IsFirst hand (with_state c key state)
first_stated None c key state first = tt
first_stated (Some hand) c key state first = first

-- a business row that is written alone is no row of the outbox
pub holds_stated : (old : Relayed) (now : Contents) (key : Key) (state : List ℕ)
    (result : Result (Unit {0}) RecordFault) → HoldsFirst old → OnOk result (now ≡ with_state old.outbox key state)
    → OnErr result (now ≡ old.outbox) → HoldsFirst (record old { outbox = now })
holds_stated old now key state (Ok done) holds is stays = grind (arith, nat_tests, first_stated)
holds_stated old now key state (Err fault) holds is stays = grind (arith, nat_tests)

-- no row is in hand
pub holds_none : (r : Relayed) → r.router.hand ≡ None → HoldsFirst r
holds_none r none = subst (λ hand. IsFirst (option_map hand_of hand) r.outbox) (sym none) tt
