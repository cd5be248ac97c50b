-- Ids that read back from records, and the rows of an aggregate among all rows, and among those of a place.
use Rattle.kob_delivery.proofs.Words.{All, All-from_recursion, AllByRecursion, AreServed, Arrival, Bool, Contains, Contents, Dispatch, Dispatching, Entry, Event, Intake, IsCopy, IsDelivered, IsDistinct, IsPrefixOf, IsRecordOf, IsRouterRun, IsTakenInOrder, List, May, Move, None, Option, Place, ReachesInOrder, Record, Recorded, Some, State, Target, [], after, after_record, and_parts, ap, append-nil, arith, bytes_eq, calls_of, cases_Bool, dispatch_of, event_id, events_of, false, filter, filter_keep, filter_map, filter_skip, firsts, from_place, goes_to, id_text, ids_of, inl, inr, intake_of, is_of_aggregate, is_there, kept_by_filter, list_any, list_any-append, map_push, nat_tests, next_seq, of_each, option_map, place_of, refl, routed_to, rows_of_aggregate, same_place, served_to, slice_index, start, stored_event, subst, suc, sym, take, taken_ids, taken_in, taken_of_aggregate, carried_id, true, true≢false, was_kept, with_record, zero, ℕ, ◌%◌, ◌&&◌, ◌++◌, ◌<◌, ◌∙◌, ◌∷◌, ◌≡◌, ◌⊎◌}
use Rattle.uuid.specs.Text.{by_index, digit_place, lower, nibble, parsed}
use Rattle.uuid.proofs.RoundTrips.{parses_hyphenated}
use Rattle.uuid.proofs.TextLemmas.{by_index_at, by_index_cong, by_index_length}
use Rattle.kob_router.specs.Route.{message_of}
use Rattle.kob_delivery.proofs.Lists.{all_last, all_weaker, any_last, bytes_are, bytes_turned, none_in_filter, same_bytes, same_here, and_as, all_at, all_in, all_passing, filter_both, filter_map_turned, same_some, filter_firsts, firsts_distinct, front_begins, prefix_filter, prefix_on}
use Rattle.kob_delivery.proofs.RouterKept.{TellsIds, TellsItsId}
use Rattle.kob_delivery.proofs.Logged.{is_fresh}
use Rattle.kob_delivery.proofs.Rows.{call_of, called_ids, kept_by_router, recorded}
use Rattle.kob_delivery.proofs.ServedRuns.{IsOf, IsUnheard, all_pass}
use Rattle.kob_inbox.specs.Contents.{Contents as Inbox}
use Rattle.kob_delivery.specs.Several.{CarriesNone, is_one_of}
use Rattle.kob_delivery.proofs.SeveralRun.{IsOfRowOrOther}
use Rattle.kob_delivery.proofs.Arriving.{filter_told, firsts_of_front, ids_told, inbox_ids, passes, record_told, told_by, with_told}
use Rattle.kob_delivery.proofs.ConsumerKept.{IsContent}
use Rattle.kob_router.proofs.Lawful as lawful

-- the sixteen bytes that the text of an id is made of
abbrev bytes_of : List ℕ → List ℕ
bytes_of id = by_index 16 (λ i. slice_index id i % 256)

all_by_index : {X : Type 0} (P : X → Type 0) (n : ℕ) (f : ℕ → X) → ((i : ℕ) → P (f i)) → AllByRecursion P (by_index n f)
unfolding by_index
all_by_index P zero f h = tt
all_by_index P (suc n) f h = all_last P (by_index n f) (f n) (all_by_index P n f h) (h n)

bytes_small : (id : List ℕ) → All (λ b. b < 256) (bytes_of id)
bytes_small id =
    All-from_recursion (λ b. b < 256) (bytes_of id)
    (all_by_index (λ b. b < 256) 16 (λ i. slice_index id i % 256) (λ i. omega arith))

byte_at : (id : List ℕ) (i : ℕ) → i < 16 → slice_index (bytes_of id) i ≡ slice_index id i % 256
byte_at id i h = by_index_at 16 (λ j. slice_index id j % 256) i _ h

nibble_same : (id : List ℕ) (k : ℕ) → k < 32 → nibble (bytes_of id) k ≡ nibble id k
nibble_same id k h = grind (arith, nat_tests, byte_at)

digit_within : (k : ℕ) → k < 36 → digit_place k < 32
digit_within k h = grind (arith, nat_tests)

text_same : (id : List ℕ) → id_text (bytes_of id) ≡ id_text id
text_same id = grind (arith, nat_tests, by_index_cong, nibble_same, digit_within)

-- whatever an id is, its text reads back as an id with the same text
pub text_back : (id : List ℕ) → option_map id_text (parsed (id_text id)) ≡ Some (id_text id)
text_back id = grind (arith, nat_tests, parses_hyphenated lower (bytes_of id) (inl refl) (by_index_length 16 (λ i. slice_index id i % 256)) (bytes_small id), text_same id, by_index_length 16 (λ i. slice_index id i % 256), bytes_small id)

pub sent_message : (target : Target) (row : Event) (d : Dispatch) → dispatch_of target row ≡ Some d
    → message_of target.route row ≡ d.message
sent_message target row d h = grind (arith, nat_tests)

pub target_tells : (target : Target) → TellsIds (dispatch_of target)
target_tells target seq event d h =
    ap carried_id (sym (sent_message target (stored_event seq event) d h)) ∙ text_back event.id

-- ---- the rows of an aggregate among all rows, and among those of a place

-- what a target makes of a recorded row tells its id
pub rows_tell : (target : Target) (c : Contents) (moves : List Move)
    → AllByRecursion (TellsItsId (dispatch_of target)) (events_of c moves)
rows_tell target c [] = tt
rows_tell target c (Recorded change event ∷ moves) =
    (target_tells target (next_seq c) event, rows_tell target (after_record c change event) moves)
rows_tell target c (_ ∷ moves) = rows_tell target c moves

-- the row's id is one of those of the rows that pass exactly where the row passes
abbrev pub IsToldById : (Event → Bool) → List Event → Event → Type 0
IsToldById test rows row = list_any (bytes_eq row.id) (ids_of (filter test rows)) ≡ test row

module _ (test : Event → Bool) where
  -- the rows before one with a new id
  older : (rows more : List Event) (row : Event) → list_any (bytes_eq row.id) (ids_of rows) ≡ false
      → AllByRecursion (IsToldById test more) rows
      → AllByRecursion (λ (x : Event). list_any (bytes_eq x.id) (ids_of (filter test more) ++ row.id ∷ []) ≡ test x)
      rows
  older [] more row new h = tt
  older (x ∷ xs) more row new h = grind (arith, nat_tests, older xs more row (grind (arith, nat_tests, new)) h.1, list_any-append, bytes_turned)

  told_more : (rows : List Event) (row : Event) → list_any (bytes_eq row.id) (ids_of rows) ≡ false
      → AllByRecursion (IsToldById test rows) rows → AllByRecursion (IsToldById test (rows ++ row ∷ []))
      (rows ++ row ∷ [])
  told_more rows row new h =
      let ids : List (List ℕ) = ids_of (filter test rows) in
      elim (cases_Bool (test row)) [
        | inl on ↦
            of_ids (ids ++ row.id ∷ [])
            (ap ids_of (filter_keep test rows row on) ∙ map_push (λ (r : Event). r.id) (filter test rows) row)
            (older rows rows row new h) (any_last (bytes_eq row.id) ids row.id (same_bytes row.id) ∙ sym on)
        | inr off ↦
            of_ids ids (ap ids_of (filter_skip test rows row off)) h
            (none_in_filter (bytes_eq row.id) (λ (r : Event). r.id) test rows new ∙ sym off)
      ]
    where
      of_ids : (ids : List (List ℕ)) → ids_of (filter test (rows ++ row ∷ [])) ≡ ids
          → AllByRecursion (λ (x : Event). list_any (bytes_eq x.id) ids ≡ test x) rows
          → list_any (bytes_eq row.id) ids ≡ test row
          → AllByRecursion (IsToldById test (rows ++ row ∷ [])) (rows ++ row ∷ [])
      of_ids ids is old one =
          subst (λ xs. AllByRecursion (λ (x : Event). list_any (bytes_eq x.id) xs ≡ test x) (rows ++ row ∷ [])) (sym is)
          (all_last (λ (x : Event). list_any (bytes_eq x.id) ids ≡ test x) rows row old one)

  -- what is kept along a run: the ids are those of the rows
  abbrev IsTold : List Event → State → Unit {0} → Type 0
  IsTold rows s b = (s.outbox.ids ≡ ids_of rows) × AllByRecursion (IsToldById test rows) rows

  told_move : (route : Dispatching) (m : Move) (rows : List Event) (s : State) (b : Unit {0}) → May route s m
      → IsUnheard (call_of m) → IsTold rows s b → IsTold (rows ++ recorded s m) (after s m) b
  told_move route m rows s b may u k = grind (arith, nat_tests, map_push, told_more, is_fresh, append-nil, called_ids)

  pub told_all : (route : Dispatching) (worker : ℕ) (journal : List Entry) (moves : List Move) (final : State)
      → IsRouterRun route start moves final → AreServed (calls_of moves) (served_to worker journal)
      → AllByRecursion (IsToldById test (events_of start.outbox moves)) (events_of start.outbox moves)
  told_all route worker journal moves final run served =
      (kept_by_router route worker (IsOf journal) IsTold (told_move route)
      (λ c marks rows s e b d may by own there k. (called_ids s c marks ∙ k.0, k.1))
      (λ rows s e b d other there k. k) moves final journal tt tt run served (all_pass journal) (refl, tt)).1

module _ (target : Target) (kind id : List ℕ) where
  -- an aggregate has one place
  pub one_place : (a b : Event) → is_of_aggregate kind id a ≡ true → is_of_aggregate kind id b ≡ true
      → place_of (dispatch_of target a) ≡ place_of (dispatch_of target b)
  one_place a b h k =
      let (kind_a, id_a) = and_parts (bytes_eq a.aggregate_type kind) (bytes_eq a.aggregate_id id) h in
      let (kind_b, id_b) = and_parts (bytes_eq b.aggregate_type kind) (bytes_eq b.aggregate_id id) k in
      lawful.one_place target a b
      (bytes_are a.aggregate_type kind kind_a ∙ sym (bytes_are b.aggregate_type kind kind_b))
      (bytes_are a.aggregate_id id id_a ∙ sym (bytes_are b.aggregate_id id id_b))

  goes_there : (o : Option Dispatch) (q : Place) → place_of o ≡ Some q → goes_to q o ≡ true
  goes_there None q e = cc
  goes_there (Some d) q e = let same : d.place ≡ q = cc in ap (same_place q) same ∙ same_here q

  pub passes_as : (q : Place) (row : Event) → is_of_aggregate kind id row ≡ true
      → place_of (dispatch_of target row) ≡ Some q
      → (test : List ℕ → Bool) (rows : List Event) → AllByRecursion
      (λ (x : Event). test x.id ≡ is_of_aggregate kind id x) rows
      → AllByRecursion (λ (x : Event). (goes_to q (dispatch_of target x) && test x.id) ≡ is_of_aggregate kind id x) rows
  passes_as q row is at test rows h =
      all_weaker (λ (x : Event). test x.id ≡ is_of_aggregate kind id x)
      (λ (x : Event). (goes_to q (dispatch_of target x) && test x.id) ≡ is_of_aggregate kind id x)
      (λ x same. elim (cases_Bool (is_of_aggregate kind id x)) [
        | inl on ↦ rw (goes_there (dispatch_of target x) q (one_place x row on is ∙ at)) same
        | inr off ↦ grind (arith, nat_tests, same, off)
      ]) rows h

-- What reaches an inbox follows of what was delivered and what was taken in order, as an aggregate has one place.

module _ (target : Target) (rows : List Event) where
  -- what arrived is what the route makes of a row, from the place where the row is routed
  abbrev IsFromRow : Arrival → Type 0
  IsFromRow a = IsRecordOf (dispatch_of target) a.place rows a.message

  -- or it carries none of some ids
  abbrev IsFromRowOr : List (List ℕ) → Arrival → Type 0
  IsFromRowOr ids a = IsFromRow a ⊎ CarriesNone ids a.message

  -- all that arrived, where it is so for each place
  from_rows : (ids : List (List ℕ)) (assigned : Place → Type 0) (records : Place → List Record)
      (arrived : List Arrival)
      → ((q : Place) → assigned q → AllByRecursion (IsContent (records q)) (from_place q arrived))
      → ((q : Place) → assigned q → AllByRecursion (IsOfRowOrOther (dispatch_of target) q ids rows) (records q))
      → AllByRecursion (λ (a : Arrival). assigned a.place) arrived → AllByRecursion (IsFromRowOr ids) arrived
  from_rows ids assigned records arrived contents each places =
      of_each (IsFromRowOr ids) arrived
      (λ a there.
      let q : Place = a.place in
      let at = all_in (λ (b : Arrival). assigned b.place) arrived a there places in
      all_at (IsOfRowOrOther (dispatch_of target) q ids rows) (records q) a.offset a.message
      (all_in (IsContent (records q)) (from_place q arrived) a
      (kept_by_filter (λ (b : Arrival). same_place b.place q) arrived a there (same_here q)) (contents q at)) (each q at))

  module _ (tell : AllByRecursion (TellsItsId (dispatch_of target)) rows) where
    tells_of : (a : Arrival) (f : IsFromRow a) → told_by a ≡ Some f.0.id
    tells_of a (row, at, to) =
        all_in (TellsItsId (dispatch_of target)) rows row at tell (record { place = a.place; message = a.message }) to

    -- copies

    copy_of : (a : Arrival) (text : List ℕ) → told_by a ≡ Some text → IsFromRow a
        → IsCopy rows (intake_of text a)
    copy_of a text e f = grind (arith, nat_tests, sent_message target f.0 (record { place = a.place; message = a.message }) f.2, same_some text f.0.id (sym e ∙ tells_of a f), tells_of a f)

    -- what was taken in under one of the ids is a row's copy
    abbrev IsCopyIf : List (List ℕ) → Intake → Type 0
    IsCopyIf ids i = list_any (bytes_eq i.id) ids ≡ true → IsCopy rows i

    copy_if : (ids : List (List ℕ)) (a : Arrival) (text : List ℕ) → told_by a ≡ Some text → IsFromRowOr ids a
        → IsCopyIf ids (intake_of text a)
    copy_if ids a text e (inl f) = λ on. copy_of a text e f
    copy_if ids a text e (inr off) = λ on. let none = rw e at off in absurd (true≢false (sym on ∙ none))

    copies_more : (ids : List (List ℕ)) (inbox : Inbox) (a : Arrival) (o : Option (List ℕ)) → told_by a ≡ o
        → IsFromRowOr ids a → AllByRecursion (IsCopyIf ids) inbox → AllByRecursion (IsCopyIf ids) (with_told inbox o a)
    copies_more ids inbox a None e f h = h
    copies_more ids inbox a (Some text) e f h =
        elim (cases_Bool (is_there inbox text)) [
          | inl old ↦ rw old h
          | inr new ↦ rw new (all_last (IsCopyIf ids) inbox (intake_of text a) h (copy_if ids a text e f))
        ]

    copies_all : (ids : List (List ℕ)) (inbox : Inbox) (arrived : List Arrival)
        → AllByRecursion (IsFromRowOr ids) arrived → AllByRecursion (IsCopyIf ids) inbox
        → AllByRecursion (IsCopyIf ids) (taken_in inbox arrived)
    copies_all ids inbox [] f h = h
    copies_all ids inbox (a ∷ arrived) f h =
        copies_all ids (with_record inbox (event_id a.message) a) arrived f.1
        (rw (record_told inbox (event_id a.message) a) (copies_more ids inbox a (told_by a) refl f.0 h))

    -- what passes is of a row of the aggregate
    module _ (kind id : List ℕ) (said : AllByRecursion (IsToldById (is_of_aggregate kind id) rows) rows) where
      abbrev its_ids : List (List ℕ)
      its_ids = ids_of (rows_of_aggregate rows kind id)

      abbrev in_aggregate : List ℕ → Bool
      in_aggregate i = list_any (bytes_eq i) its_ids

      passes_none : (o : Option (List ℕ)) → is_one_of its_ids o ≡ false → passes in_aggregate o ≡ false
      passes_none None h = refl
      passes_none (Some i) h = h

      is_said : (row : Event) → Contains rows row → in_aggregate row.id ≡ true → is_of_aggregate kind id row ≡ true
      is_said row at h = sym (all_in (IsToldById (is_of_aggregate kind id) rows) rows row at said) ∙ h

      own_copy : (i : Intake) → IsCopy rows i × (in_aggregate i.id ≡ true) → IsCopy (rows_of_aggregate rows kind id) i
      own_copy i (copy, h) = grind (arith, nat_tests, kept_by_filter, is_said)

      own_copies : (inbox : Inbox) → AllByRecursion (IsCopyIf its_ids) inbox
          → AllByRecursion (IsCopy (rows_of_aggregate rows kind id)) (taken_of_aggregate inbox rows kind id)
      own_copies inbox h =
          all_weaker (λ (i : Intake). IsCopyIf its_ids i × (in_aggregate i.id ≡ true))
          (IsCopy (rows_of_aggregate rows kind id)) (λ i p. own_copy i (p.0 p.1, p.1))
          (taken_of_aggregate inbox rows kind id)
          (all_passing (IsCopyIf its_ids) (λ (i : Intake). in_aggregate i.id) inbox h)

      row_of_passing : (a : Arrival) → IsFromRow a → passes in_aggregate (told_by a) ≡ true
          → (row : Event) × (is_of_aggregate kind id row ≡ true) × (place_of (dispatch_of target row) ≡ Some a.place)
      row_of_passing a f h =
          (f.0, is_said f.0 f.1 (ap (passes in_aggregate) (sym (tells_of a f)) ∙ h), ap place_of f.2)

      same_place_as : (a b : Arrival) → IsFromRow a → IsFromRow b → passes in_aggregate (told_by a) ≡ true
          → passes in_aggregate (told_by b) ≡ true → b.place ≡ a.place
      same_place_as a b f g pass_a pass_b = grind (arith, nat_tests, row_of_passing, same_some, one_place)

      -- the ids that pass, of the one place that they come from
      begins_here : (arrived : List Arrival) (a : Arrival) (records : List Record)
          → AllByRecursion (IsFromRowOr its_ids) arrived → IsFromRow a
          → passes in_aggregate (told_by a) ≡ true → IsDelivered (dispatch_of target) a.place rows records
          → IsTakenInOrder a.place records arrived
          → IsPrefixOf (firsts bytes_eq (filter in_aggregate (ids_told arrived)))
          (ids_of (rows_of_aggregate rows kind id))
      begins_here arrived a records from f pass delivered order =
          rw (first, ← whole)
          (prefix_filter in_aggregate front (ids_of (routed_to (dispatch_of target) a.place rows))
          (prefix_on front (firsts bytes_eq (filter_map carried_id records))
          (ids_of (routed_to (dispatch_of target) a.place rows)) (front_begins carried_id records order.bound)
          delivered.ids))
        where
          front : List (List ℕ)
          front = firsts bytes_eq (filter_map carried_id (take order.bound records))

          passing : Arrival → Bool
          passing b = passes in_aggregate (told_by b)

          first : firsts bytes_eq (filter in_aggregate (ids_told arrived)) ≡ filter in_aggregate front
          first =
              ap (firsts bytes_eq)
              (filter_told in_aggregate arrived
              ∙ ap ids_told (sym (filter_both passing (λ b. same_place b.place a.place) passing arrived
              (all_weaker (IsFromRowOr its_ids) (λ b. (same_place b.place a.place && passing b) ≡ passing b) here arrived from)))
              ∙ sym (filter_told in_aggregate (from_place a.place arrived)))
              ∙ sym (filter_firsts in_aggregate (ids_told (from_place a.place arrived)))
              ∙ ap (filter in_aggregate)
              (firsts_of_front records order.bound (from_place a.place arrived) order.offsets order.contents)
            where
              here : (b : Arrival) → IsFromRowOr its_ids b → (same_place b.place a.place && passing b) ≡ passing b
              here b (inr off) =
                  and_as (same_place b.place a.place) (passing b)
                  (λ on. absurd (true≢false (sym on ∙ passes_none (told_by b) off)))
              here b (inl g) =
                  and_as (same_place b.place a.place) (passing b)
                  (λ on. rw (same_place_as a b f g pass on) (same_here a.place))

          whole : filter in_aggregate (ids_of (routed_to (dispatch_of target) a.place rows)) ≡ ids_of
              (rows_of_aggregate rows kind id)
          whole =
              let row = row_of_passing a f pass in
              filter_map_turned (λ (y : Event). y.id) in_aggregate (routed_to (dispatch_of target) a.place rows)
              ∙ ap ids_of (filter_both (λ (y : Event). in_aggregate y.id)
              (λ (y : Event). goes_to a.place (dispatch_of target y)) (is_of_aggregate kind id) rows
              (passes_as target kind id a.place row.0 row.1 row.2 in_aggregate rows said))

      -- an inbox that is what was taken in
      pub reaches : (assigned : Place → Type 0) (records : Place → List Record) (arrived : List Arrival)
          (inbox : Inbox)
          → ((q : Place) → assigned q → AllByRecursion (IsOfRowOrOther (dispatch_of target) q its_ids rows) (records q))
          → ((q : Place) → assigned q → (row : Event) → Contains rows row → is_of_aggregate kind id row ≡ true
          → place_of (dispatch_of target row) ≡ Some q → IsDelivered (dispatch_of target) q rows (records q))
          → ((q : Place) → assigned q → IsTakenInOrder q (records q) arrived)
          → AllByRecursion (λ (a : Arrival). assigned a.place) arrived → inbox ≡ taken_in [] arrived
          → ReachesInOrder rows inbox kind id
      reaches assigned records arrived inbox each delivered order all_assigned is =
          record { begins = begins; once = once; copies = copies }
        where
          from : AllByRecursion (IsFromRowOr its_ids) arrived
          from = from_rows its_ids assigned records arrived (λ q a. (order q a).contents) each all_assigned

          ids_are : taken_ids (taken_of_aggregate inbox rows kind id) ≡ firsts bytes_eq
              (filter in_aggregate (ids_told arrived))
          ids_are =
              sym (filter_map_turned (λ (i : Intake). i.id) in_aggregate inbox)
              ∙ ap (filter in_aggregate) (ap taken_ids is ∙ inbox_ids [] arrived)
              ∙ filter_firsts in_aggregate (ids_told arrived)

          copies : AllByRecursion (IsCopy (rows_of_aggregate rows kind id)) (taken_of_aggregate inbox rows kind id)
          copies =
              own_copies inbox
              (subst (AllByRecursion (IsCopyIf its_ids)) (sym is) (copies_all its_ids [] arrived from tt))

          once : IsDistinct bytes_eq (taken_ids (taken_of_aggregate inbox rows kind id))
          once = subst (IsDistinct bytes_eq) (sym ids_are) (firsts_distinct (filter in_aggregate (ids_told arrived)))

          by : (passing : List Arrival) → filter (λ a. passes in_aggregate (told_by a)) arrived ≡ passing
              → IsPrefixOf (firsts bytes_eq (filter in_aggregate (ids_told arrived)))
              (ids_of (rows_of_aggregate rows kind id))
          by [] is =
              (ids_of (rows_of_aggregate rows kind id), rw (filter_told in_aggregate arrived, is) refl)
          by (a ∷ more) is =
              let (there, pass) = was_kept (λ b. passes in_aggregate (told_by b)) arrived a (rw is (0, omega arith, refl)) in
              let at = all_in (λ (b : Arrival). assigned b.place) arrived a there all_assigned in
              elim (all_in (IsFromRowOr its_ids) arrived a there from) [
                | inl f ↦
                    let its = is_said f.0 f.1 (ap (passes in_aggregate) (sym (tells_of a f)) ∙ pass) in
                    begins_here arrived a (records a.place) from f pass
                    (delivered a.place at f.0 f.1 its (ap place_of f.2)) (order a.place at)
                | inr off ↦ absurd (true≢false (sym pass ∙ passes_none (told_by a) off))
              ]

          begins : IsPrefixOf (taken_ids (taken_of_aggregate inbox rows kind id))
              (ids_of (rows_of_aggregate rows kind id))
          begins = rw ids_are (by (filter (λ a. passes in_aggregate (told_by a)) arrived) refl)
