-- What an inbox makes of the records that arrive.
use Rattle.kob_delivery.proofs.Words.{AllByRecursion, Arrival, Bool, Contains, Denied, Done, Fetch, IsConsumerRun, List, None, Option, Place, Record, Refused, Reply, Request, Some, Subscription, [], ap, arith, arrivals, bytes_eq, cons_option, cursor_of, event_id, false, filter, filter_map, firsts, fold, id_text, intake_of, is_there, list_any, map, map_push, nat_eq, nat_tests, option_map, place_at, range_with_len, refl, take, taken_by, taken_ids, taken_in, taken_of, carried_id, with_intake, with_new, with_record, ℕ, ◌∷◌, ◌≡◌}
use Rattle.kob_inbox.specs.Contents.{Contents}
use Rattle.kob_inbox.specs.Run.{standing, Move, State, after}
use Rattle.kob_inbox.specs.Run.Move.{Called, Restarted}
use Rattle.kob_inbox.specs.declared.cursors.Standing.{Standing}
use Rattle.kob_delivery.proofs.ConsumerKept.{IsContent, offset_of}
use Rattle.kob_delivery.proofs.ConsumerRun.{IsDueAs, is_due_as}
use Rattle.kob_delivery.proofs.Lists.{all_append, bytes_turned, contains_at, told_at, told_by_firsts, told_by_front}
use Rattle.kob_rights.specs.declared.reply.Body.TheVariants as bodies

-- the event id of what arrived
abbrev pub told_by : Arrival → Option (List ℕ)
told_by a = carried_id a.message

abbrev pub ids_told : List Arrival → List (List ℕ)
ids_told arrived = filter_map told_by arrived

-- the event with this text of an id is taken in
abbrev pub with_told : Contents → Option (List ℕ) → Arrival → Contents
with_told events None a = events
with_told events (Some text) a = with_intake events (intake_of text a)

pub record_told : (events : Contents) (o : Option (List ℕ)) (a : Arrival)
    → with_record events o a ≡ with_told events (option_map id_text o) a
record_told events None a = refl
record_told events (Some id) a = refl

-- what arrives is of assigned places

places_at : (P : Place → Type 0) (p : Place) (xs : List (ℕ × Record)) → P p
    → AllByRecursion (λ (a : Arrival). P a.place) (arrivals p xs)
places_at P p [] h = tt
places_at P p (x ∷ xs) h = (h, places_at P p xs h)

abbrev IsAssigned : Subscription → Arrival → Type 0
IsAssigned t a = Contains t.assignment a.place

places_by : (t : Subscription) (place : Place) (o : Option Standing) (request : Request) (heard : Option Reply)
    (count : ℕ)
    → Contains t.assignment place → IsDueAs t place o request
    → AllByRecursion (IsAssigned t) (taken_by request heard count)
places_by t place o request None count c d = tt
places_by t place o request (Some (Denied code verdicts)) count c d = tt
places_by t place o request (Some (Refused code reason)) count c d = tt
places_by t place o (Fetch asked) (Some (Done (bodies.Records records))) count c d = places_at (Contains t.assignment) (place_at asked.topic asked.partition) (take count records) (rw d.0 c)
places_by t place o _ (Some (Done _)) count c d = tt

pub all_assigned : (t : Subscription) (moves : List Move) (s final : State) → IsConsumerRun t s moves final
    → AllByRecursion (λ (a : Arrival). Contains t.assignment a.place) (taken_of moves)
all_assigned t [] s final run = tt
all_assigned t (Restarted ∷ ms) s final run = all_assigned t ms (after t s Restarted) final run.1
all_assigned t (Called c count ∷ ms) s final run =
    let due = run.0.0 in
    all_append (IsAssigned t) (taken_by c.request c.heard count) (taken_of ms)
    (places_by t due.place (standing (cursor_of s.cursors due.place)) c.request c.heard count
    (contains_at t.assignment s.turn due.place due.its_turn) (is_due_as t s c.request due))
    (all_assigned t ms (after t s (Called c count)) final run.1)

-- the ids of the inbox are those told, each once

there_as : (events : Contents) (id : List ℕ) → is_there events id ≡ list_any (bytes_eq id) (taken_ids events)
there_as [] id = refl
there_as (e ∷ events) id = grind (arith, nat_tests, bytes_turned e.id id, there_as events id)

told_one : (events : Contents) (o : Option (List ℕ)) (a : Arrival) (ids : List (List ℕ))
    → fold (with_new bytes_eq) (taken_ids (with_told events o a)) ids
    ≡ fold (with_new bytes_eq) (taken_ids events) (cons_option o ids)
told_one events o a ids = grind (arith, nat_tests, there_as, map_push)

pub inbox_ids : (events : Contents) (arrived : List Arrival)
    → taken_ids (taken_in events arrived) ≡ fold (with_new bytes_eq) (taken_ids events) (ids_told arrived)
inbox_ids events [] = refl
inbox_ids events (a ∷ arrived) = cc (inbox_ids (with_record events (event_id a.message) a) arrived, record_told events (event_id a.message) a, told_one events (told_by a) a (ids_told arrived))

-- what passes a test

abbrev pub passes : (List ℕ → Bool) → Option (List ℕ) → Bool
passes test None = false
passes test (Some id) = test id

pub filter_told : (test : List ℕ → Bool) (arrived : List Arrival)
    → filter test (ids_told arrived) ≡ ids_told (filter (λ a. passes test (told_by a)) arrived)
filter_told test [] = refl
filter_told test (a ∷ arrived) = by (filter_told test arrived) (told_by a) refl
  where
    by : filter test (ids_told arrived) ≡ ids_told (filter (λ (b : Arrival). passes test (told_by b)) arrived)
        → (o : Option (List ℕ)) → told_by a ≡ o
        → filter test (cons_option o (ids_told arrived))
        ≡ ids_told (filter (λ (b : Arrival). passes test (told_by b)) (a ∷ arrived))
    by rest None is = rw is rest
    by rest (Some id) is = grind (arith, nat_tests, rest, is)

-- the firsts of what is taken in order are those of a front

told_there : (records : List Record) (arrived : List Arrival) → AllByRecursion (IsContent records) arrived
    → ids_told arrived ≡ filter_map (told_at carried_id records) (map offset_of arrived)
told_there records [] h = refl
told_there records (a ∷ arrived) h = rw h.0 (ap (cons_option (told_by a)) (told_there records arrived h.1))

pub firsts_of_front : (records : List Record) (n : ℕ) (arrived : List Arrival)
    → firsts nat_eq (map offset_of arrived) ≡ range_with_len 0 n → AllByRecursion (IsContent records) arrived
    → firsts bytes_eq (ids_told arrived) ≡ firsts bytes_eq (filter_map carried_id (take n records))
firsts_of_front records n arrived offsets contents = grind (arith, nat_tests, told_there, told_by_firsts, told_at, offset_of, told_by_front)
