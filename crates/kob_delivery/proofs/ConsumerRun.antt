-- What each call of a consumer keeps, served or not, and what its run takes in of a partition.
use Rattle.kob_delivery.proofs.Words.{AreServed, Arrival, Body, Bool, Call, Cursor, Denied, Done, Entry, Fetch, IsConsumerRun, IsDue, IsHistory, IsNeverDeleted, IsNoDeletion, IsOwnCommit, IsSoleCommitter, IsTakenInOrder, List, None, OffsetCommit, OffsetFetch, Option, Place, Record, Refused, Reply, Request, Some, Step, Subscription, View, [], after_answer, and_parts, ap, arith, bytes_eq, cond, cursor_of, false, filter_map, inl, inr, nat_tests, opening_view, place_at, Reads, read_from, records_of, records_of_append, refl, same_place, served_to, subst, sym, take, taken_by, taken_of, true, unwrap_or, with_commit, ℕ, ◌&&◌, ◌++◌, ◌∙◌, ◌∷◌, ◌≡◌, ◌≤◌}
use Rattle.kob_rights.specs.declared.on_groups.OffsetCommit.{OffsetCommit as CommitRequest}
use Rattle.kob_rights.specs.declared.on_groups.OffsetFetch.{OffsetFetch as PositionRequest}
use Rattle.kob_rights.specs.declared.on_partitions.Fetch.{Fetch as FetchRequest}
use Rattle.kob_inbox.specs.Run.{standing, State, May, Move, after, calls_of, start}
use Rattle.kob_inbox.specs.declared.cursors.Standing.{Standing}
use Rattle.kob_delivery.proofs.ConsumerKept.{Fits, Taking, WithinCursor, WithinOffset, taking_after_fetch, taking_after_move, taking_nothing, taking_with_commit, taking_after_restart, taking_first, taking_later, read_in_order}
use Rattle.kob_delivery.proofs.Lists.{all_both, places_are, same_some}
use Rattle.kob_delivery.proofs.RouterRun.{NotDone, heard_no_done, heard_none}
use Rattle.kob_delivery.proofs.ServedRuns.{Hears, IsRun, IsServedBy, IsUnheard, StepsAs, added, history_passes, kept_by_run}
use Rattle.kob_inbox.specs.Run.Move.{Called, Restarted}
use Rattle.kob_delivery.proofs.OtherSteps.{Leaves, leaves}
use Rattle.kob_rights.specs.declared.reply.Body.TheVariants as bodies

-- what the due request has
abbrev pub IsDueAs : Subscription → Place → Option Standing → Request → Type 0
IsDueAs t place o (OffsetFetch asked) = (asked.group ≡ t.group) × (place_at asked.topic asked.partition ≡ place)
IsDueAs t place o (OffsetCommit asked) =
    (asked.group ≡ t.group) × (place_at asked.topic asked.partition ≡ place)
    × (c : Standing) × (o ≡ Some c) × (asked.offset ≡ c.position)
IsDueAs t place o (Fetch asked) =
    (place_at asked.topic asked.partition ≡ place) × (c : Standing) × (o ≡ Some c) × (asked.offset ≡ c.position)
IsDueAs t place o _ = ⊥

pub is_due_as : (t : Subscription) (s : State) (request : Request) (d : IsDue t s request)
    → IsDueAs t d.place (standing (cursor_of s.cursors d.place)) request
is_due_as t s request d = grind (arith, nat_tests)

-- a position is within the bound
standing_within : (o : Option Cursor) (c : Standing) (bound : ℕ) → standing o ≡ Some c → WithinCursor bound o
    → c.position ≤ bound
standing_within None c bound at w = cc
standing_within (Some x) c bound at w = rw (← ap (λ (y : Standing). y.position) (same_some _ c at)) w

position_within : (cs : List Cursor) (p q : Place) (c : Standing) (bound : ℕ) → standing (cursor_of cs p) ≡ Some c
    → WithinCursor bound (cursor_of cs q) → p ≡ q → c.position ≤ bound
position_within cs p q c bound at w e =
    standing_within (cursor_of cs q) c bound (ap (λ (y : Place). standing (cursor_of cs y)) (sym e) ∙ at) w

offset_within : (o : Option ℕ) (bound : ℕ) → WithinOffset bound o → unwrap_or o 0 ≤ bound
offset_within None bound w = omega arith
offset_within (Some n) bound w = w

none_taken : {A : Type 0} (count : ℕ) (xs : List A) → count ≡ 0 → take count xs ≡ []
none_taken count xs e = ap (λ n. take n xs) e

commit_or_not : (b : Bool) (n bound : ℕ) (o : Option ℕ) → (b ≡ true → n ≤ bound) → WithinOffset bound o
    → WithinOffset bound (cond b (Some n) o)
commit_or_not true n bound o h w = h refl
commit_or_not false n bound o h w = w

-- with no Done heard nothing changes
unheard : (t : Subscription) (s : State) (request : Request) (heard : Option Reply) (count : ℕ) → NotDone heard
    → (after_answer t s request heard count ≡ s) × (taken_by request heard count ≡ [])
unheard t s request heard count n = grind (arith, nat_tests)

module _ (t : Subscription) (q : Place) where
  abbrev pub TakingIn : State → View → List Arrival → Type 0
  TakingIn s v arrived = Taking q (records_of (v.log q)) (v.committed t.group q) s.cursors arrived

  -- after a call
  abbrev After : State → View → List Arrival → Request → Option Reply → ℕ → Type 0
  After s v arrived request heard count = TakingIn (after_answer t s request heard count) v
      (arrived ++ taken_by request heard count)

  pub taking_silent : (s : State) (v : View) (arrived : List Arrival) (request : Request) (heard : Option Reply)
      (count : ℕ) → NotDone heard → TakingIn s v arrived → After s v arrived request heard count
  taking_silent s v arrived request heard count n k =
      let (same, none) = unheard t s request heard count n in rw (same, none) (taking_nothing q k)

  -- OFFSET_FETCH that was heard
  placed : (s : State) (v : View) (arrived : List Arrival) (asked : PositionRequest) (body : Body)
      (heard : Option Reply) (count : ℕ)
      → asked.group ≡ t.group → body ≡ bodies.Commit (v.committed asked.group (place_at asked.topic asked.partition))
      → heard ≡ Some (Done body) → TakingIn s v arrived → After s v arrived (OffsetFetch asked) heard count
  placed s v arrived asked body heard count own is e k =
      let p : Place = place_at asked.topic asked.partition in
      let o : Option ℕ = v.committed asked.group p in
      let commit : WithinOffset k.bound (v.committed asked.group q) = rw own k.commit in
      rw (e, is)
      (taking_nothing q
      (taking_after_move q (record { place = p; position = unwrap_or o 0; uncommitted = false }) k
      (λ here. offset_within o k.bound (rw here commit))))

  -- FETCH that was heard
  fetched_in : (s : State) (v : View) (arrived : List Arrival) (asked : FetchRequest) (body : Body)
      (heard : Option Reply) (count : ℕ) (c : Standing)
      → standing (cursor_of s.cursors (place_at asked.topic asked.partition)) ≡ Some c → asked.offset ≡ c.position
      → Reads (records_of (v.log (place_at asked.topic asked.partition))) asked.offset body
      → heard ≡ Some (Done body) → TakingIn s v arrived → After s v arrived (Fetch asked) heard count
  fetched_in s v arrived asked body heard count c at here is e k =
      let p : Place = place_at asked.topic asked.partition in
      let all : List (ℕ × Record) = read_from (records_of (v.log p)) asked.offset is.count in
      let fits : p ≡ q → Fits q (records_of (v.log q)) k.bound asked.offset (take count all) =
      λ same. (
        rw here (position_within s.cursors p q c k.bound at k.cursor same),
        rw (← same) (read_in_order (records_of (v.log p)) asked.offset is.count count),
      ) in
      rw (e, is.body_is) (taking_after_fetch q p asked.offset count (take count all) k (none_taken count all) fits)

  -- OFFSET_COMMIT that was served
  committed_in : (s : State) (v : View) (arrived : List Arrival) (asked : CommitRequest) (body : Body)
      (heard : Option Reply) (count : ℕ) (c : Standing)
      → standing (cursor_of s.cursors (place_at asked.topic asked.partition)) ≡ Some c → asked.offset ≡ c.position
      → Hears heard (Done body) → TakingIn s v arrived
      → After s (with_commit v asked.group (place_at asked.topic asked.partition) asked.offset) arrived
      (OffsetCommit asked) heard count
  committed_in s v arrived asked body heard count c at here hears k = go hears
    where
      p : Place
      p = place_at asked.topic asked.partition

      within : place_at asked.topic asked.partition ≡ q → asked.offset ≤ k.bound
      within e = rw here (position_within s.cursors (place_at asked.topic asked.partition) q c k.bound at k.cursor e)

      committed : TakingIn s (with_commit v asked.group (place_at asked.topic asked.partition) asked.offset) arrived
      committed =
          taking_with_commit q k
          (commit_or_not (bytes_eq asked.group t.group && same_place (place_at asked.topic asked.partition) q)
          asked.offset k.bound (v.committed t.group q)
          (λ both.
          within (places_are (place_at asked.topic asked.partition) q
          (and_parts (bytes_eq asked.group t.group) (same_place (place_at asked.topic asked.partition) q) both).1))
          k.commit)

      go : Hears heard (Done body)
          → After s (with_commit v asked.group (place_at asked.topic asked.partition) asked.offset) arrived
          (OffsetCommit asked) heard count
      go (inl e) =
          taking_silent s (with_commit v asked.group (place_at asked.topic asked.partition) asked.offset) arrived
          (OffsetCommit asked) heard count (heard_none heard e) committed
      go (inr e) =
          rw e
          (taking_nothing q
          (taking_after_move q
          (record { place = place_at asked.topic asked.partition; position = asked.offset; uncommitted = false })
          committed within))

  -- a call that was served, whatever was heard
  pub taking_served : (s : State) (v w : View) (arrived : List Arrival) (place : Place) (request : Request)
      (reply : Reply) (heard : Option Reply) (count : ℕ)
      → IsDueAs t place (standing (cursor_of s.cursors place)) request → Hears heard reply → Step v request reply w
      → TakingIn s v arrived
      → After s w arrived request heard count
  taking_served s v w arrived place request (Denied code verdicts) heard count d hears step k = grind (arith, nat_tests, taking_silent, heard_no_done)
  taking_served s v w arrived place request (Refused code reason) heard count d hears step k = grind (arith, nat_tests, taking_silent, heard_no_done)
  taking_served s v w arrived place (OffsetFetch asked) (Done body) heard count d hears step k = grind (arith, nat_tests, taking_silent, heard_none, placed)
  taking_served s v w arrived place (OffsetCommit asked) (Done body) heard count d hears step k = grind (arith, nat_tests, committed_in s v arrived asked body heard count d.2 (ap (λ (y : Place). standing (cursor_of s.cursors y)) d.1 ∙ d.3) d.4 hears k)
  taking_served s v w arrived place (Fetch asked) (Done body) heard count d hears step k =
      rw (step.1.log q, step.1.committed t.group q)
      (elim hears [
        | inl e ↦ taking_silent s v arrived (Fetch asked) heard count (heard_none heard e) k
        | inr e ↦
            fetched_in s v arrived asked body heard count d.1
            (ap (λ (y : Place). standing (cursor_of s.cursors y)) d.0 ∙ d.2) d.3 step.0 e k
      ])
  taking_served s v w arrived place _ (Done body) heard count d hears step k = absurd d

-- ---- what a consumer takes in of a partition: by its own moves and the entries of the journal, each at its pace

-- the moves of a consumer, one at a time

abbrev call_of : Move → Option Call
call_of Restarted = None
call_of (Called call count) = Some call

abbrev takes : State → Move → List Arrival
takes s Restarted = []
takes s (Called call count) = taken_by call.request call.heard count

all_taken : (t : Subscription) (moves : List Move) (s : State) → taken_of moves ≡ added (after t) takes s moves
all_taken t [] s = refl
all_taken t (Restarted ∷ moves) s = all_taken t moves (after t s Restarted)
all_taken t (Called call count ∷ moves) s = cc (all_taken t moves (after t s (Called call count)))

its_calls : (moves : List Move) → calls_of moves ≡ filter_map call_of moves
its_calls [] = refl
its_calls (Restarted ∷ moves) = its_calls moves
its_calls (Called call count ∷ moves) = ap (λ (cs : List Call). call ∷ cs) (its_calls moves)

is_run : (t : Subscription) (moves : List Move) (s final : State) → IsConsumerRun t s moves final
    → IsRun (May t) (after t) s moves final
is_run t [] s final run = run
is_run t (move ∷ moves) s final run = (run.0, is_run t moves (after t s move) final run.1)

module _ (t : Subscription) (q : Place) (worker : ℕ) (end : View) where
  -- an OFFSET_COMMIT of the group that was done is the worker's, and nobody deletes the topic
  abbrev IsAsked : Entry → Type 0
  IsAsked e = IsOwnCommit worker t.group q.topic e × IsNoDeletion q.topic e

  abbrev TakingBy : List Arrival → State → View → Type 0
  TakingBy arrived s v = TakingIn t q s v arrived

  moved : (m : Move) (arrived : List Arrival) (s : State) (v : View) → May t s m → IsUnheard (call_of m)
      → TakingBy arrived s v → TakingBy (arrived ++ takes s m) (after t s m) v
  moved m arrived s v may u k = grind (arith, nat_tests, taking_nothing, taking_after_restart, taking_silent, heard_none)

  served : (m : Move) (arrived : List Arrival) (s : State) (e : Entry) (v w : View) → May t s m
      → IsServedBy e (call_of m) → e.worker ≡ worker → StepsAs IsAsked v e w → TakingBy arrived s v
      → TakingBy (arrived ++ takes s m) (after t s m) w
  served Restarted arrived s e v w may by own goes k = absurd by
  served (Called c count) arrived s e v w may by own goes k = taking_served t q s v w arrived may.0.place c.request e.reply c.heard count (is_due_as t s c.request may.0) by.1 (rw by.0 at goes.1) k

  others : (arrived : List Arrival) (s : State) (e : Entry) (v w : View) → (e.worker ≡ worker → ⊥)
      → StepsAs IsAsked v e w → TakingBy arrived s v → TakingBy arrived s w
  others arrived s e v w other ((sole, never), step) k =
      let by : Leaves t.group q v w e.event.request e.reply = leaves t.group q v w e.event.request e.reply never step in
      let log : records_of (v.log q) ++ records_of by.more ≡ records_of (w.log q) =
      sym (ap records_of by.log ∙ records_of_append (v.log q) by.more) in
      let grown : Taking q (records_of (w.log q)) (v.committed t.group q) s.cursors arrived =
      subst (λ (rs : List Record). Taking q rs (v.committed t.group q) s.cursors arrived) log
      (taking_later q (records_of by.more) k) in grind (arith, nat_tests)

  pub is_taken_in_order : (journal : List Entry) (moves : List Move) (final : State)
      → IsHistory opening_view journal end → IsConsumerRun t start moves final
      → AreServed (calls_of moves) (served_to worker journal) → IsSoleCommitter worker t.group q.topic journal
      → IsNeverDeleted q.topic journal
      → IsTakenInOrder q (records_of (end.log q)) (taken_of moves)
  is_taken_in_order journal moves final history run a sole never =
      let each = all_both (IsOwnCommit worker t.group q.topic) (IsNoDeletion q.topic) journal sole never in
      let p = history_passes IsAsked opening_view end journal history each in
      let kept = kept_by_run (May t) (after t) call_of takes worker (StepsAs IsAsked) TakingBy moved served others final
      p.0 moves start journal opening_view (is_run t moves start final run) (rw (← (its_calls moves)) a) p.1
      (taking_first q) in
      let k : TakingIn t q final end (added (after t) takes start moves) = rw (p.2.log q, p.2.committed t.group q) kept in
      rw (all_taken t moves start) (record { bound = k.bound; offsets = k.offsets; contents = k.contents })
