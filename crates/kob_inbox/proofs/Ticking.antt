-- A tick of a consumer is put together, and what a run makes of the inbox.
use Rattle.kob_inbox.proofs.Words.{Bool, Cursor, List, None, Place, [], and_parts, arith, bytes_eq, bytes_eq-Decides, cases_Bool, cond-false, cond-true, cursor_of, drop, drop_more, eqb-true, get_or, length, nat_tests, refl, same_place, set, set_split, standing, take, true, with_cursor, ℕ, ◌++◌, ◌<◌, ◌∷◌, ◌≡◌, Adds, Body, Call, Called, Committed, Contents, Denied, Done, Fetch, Hears, IfNone, IfSome, InboxFault, IsDue, Lost, OffsetCommit, Option, Record, Refused, Repeat, Reply, Request, Point, Some, Standing, Stopped, Subscription, Tick, Ticks, after_answer, append-nil, arrivals, behind, due, event_id, inl, inr, slice_get, taken_in, with_progress, with_record, ◌+◌, Arrival, IsConsumerRun, Move, Restarted, after, ap, taken_of, ◌≤◌}
use Rattle.kob_inbox.specs.Run.{State}
use Rattle.kob_router.specs.declared.line.Delivery.TheVariants.{Delivered}
use Rattle.kob_inbox.specs.Tick.{IsReport}
use Rattle.kob_rights.specs.declared.reply.Body.TheVariants as bodies
use Rattle.kob_router.specs.declared.tick.StopReason.TheVariants as stop

pub moved_new : (cs : List Cursor) (c : Cursor) → standing (cursor_of cs c.place) ≡ None
    → with_cursor cs c ≡ cs ++ c ∷ []
moved_new [] c h = refl
moved_new (x ∷ cs) c h = grind (arith, nat_tests, cases_Bool, cond-true, cond-false, moved_new cs c)

-- the first cursor of the place is found at i
pub changed : (cs : List Cursor) (i : ℕ) (d : Cursor) (place : Place) (position : ℕ) (uncommitted : Bool)
    → i < length cs → same_place (get_or cs i d).place place ≡ true
    → set cs i (record { place = (get_or cs i d).place; position = position; uncommitted = uncommitted })
    ≡ take i cs ++ with_cursor (drop i cs) (record { place = place; position = position; uncommitted = uncommitted })
changed cs i d place position uncommitted l same =
    grind (arith, nat_tests, drop_more, cond-true, set, set_split, and_parts, bytes_eq, bytes_eq-Decides, eqb-true)

-- ---- records, one more at a time

pub taken_last : (events : Contents) (p : Place) (xs : List (ℕ × Record)) (x : ℕ × Record)
    → taken_in events (arrivals p (xs ++ x ∷ [])) ≡ with_record (taken_in events (arrivals p xs)) (event_id x.1)
    (record { place = p; offset = x.0; message = x.1 })
taken_last events p [] x = refl
taken_last events p (y ∷ ys) x =
    taken_last (with_record events (event_id y.1) (record { place = p; offset = y.0; message = y.1 })) p ys x

pub behind_last : (n : ℕ) (xs : List (ℕ × Record)) (x : ℕ × Record) → behind n (xs ++ x ∷ []) ≡ x.0 + 1
behind_last n [] x = refl
behind_last n (y ∷ ys) x = behind_last (y.0 + 1) ys x

-- ---- the request that is due

pub is_due : {t : Subscription} {s : State} {assigned : Place} {places : List Place} {cursors : List Cursor}
    (p : Place) (stood : Option Standing) (request : Request) → places ≡ t.assignment
    → slice_get places s.turn ≡ Some assigned → p ≡ assigned → cursors ≡ s.cursors
    → stood ≡ standing (cursor_of cursors p) → request ≡ due t p stood → IsDue t s request
is_due p stood request whole turn copied same stands asked =
    record { place = p; its_turn = rw (← whole, copied) turn; is_due = rw (asked, stands, same) refl }

abbrev pub commit_at : Subscription → Place → ℕ → Request
commit_at t p position =
    OffsetCommit (record { group = t.group; topic = p.topic; partition = p.partition; offset = position })

abbrev pub fetch_at : Subscription → Place → ℕ → Request
fetch_at t p position = Fetch (record { topic = p.topic; partition = p.partition; offset = position; max = t.max })

-- ---- a tick by what came of its call

-- a point in which all stands but the line
abbrev pub point : State → List Call → ℕ → Point
point s calls unmade = record { state = s; calls = calls; unmade = unmade }

abbrev pub state_with : Contents → List Cursor → ℕ → State
state_with inbox cursors turn = record { inbox = inbox; cursors = cursors; turn = turn }

-- a tick over cursors that a growth left as they were
module _ {t : Subscription} {inbox : Contents} {cs ds : List Cursor} {turn : ℕ} {asked : Request}
    {before now : List Call} {u v : ℕ} (same : cs ≡ ds) (due : IsDue t (state_with inbox ds turn) asked) where
  -- a call after which all stands as it did
  ticks_still : (heard : Option Reply) {tick : Tick}
      → after_answer t (state_with inbox ds turn) asked heard 0 ≡ state_with inbox ds turn
      → now ≡ before ++ record { request = asked; heard = heard } ∷ [] → v ≡ u
      → IsReport t tick (Called (record { request = asked; heard = heard }) 0 ∷ [])
      → Ticks t (point (state_with inbox ds turn) before u) (point (state_with inbox cs turn) now v) tick
  ticks_still heard {tick} stays made noted answer = grind (arith, nat_tests)

  pub ticks_lost : Adds before now u v asked Lost
      → Ticks t (point (state_with inbox ds turn) before u) (point (state_with inbox cs turn) now v) Repeat
  ticks_lost (inl made) = ticks_still None refl made.0 made.1 (inr (asked, refl))
  ticks_lost (inr unmade) = grind (arith, nat_tests, append-nil)

  pub ticks_rejected : (reply : Reply) → ((body : Body) → reply ≡ Done body → ⊥)
      → Adds before now u v asked (Delivered reply)
      → Ticks t (point (state_with inbox ds turn) before u) (point (state_with inbox cs turn) now v)
      (Stopped (stop.Rejected reply))
  ticks_rejected (Denied code verdicts) other (made, noted) = ticks_still _ refl made noted (tt, (asked, refl))
  ticks_rejected (Refused code reason) other (made, noted) = ticks_still _ refl made noted (tt, (asked, refl))
  ticks_rejected (Done body) other added = absurd (other body refl)

  -- a body was heard
  pub ticks_heard : {new : State} {reply : Reply} (request : Request) (body : Body) {tick : Tick} → asked ≡ request
      → reply ≡ Done body → Adds before now u v asked (Delivered reply)
      → Hears t (state_with inbox cs turn) new request body tick
      → Ticks t (point (state_with inbox ds turn) before u) (point new now v) tick
  ticks_heard {new} {reply} request body {tick} due_is is added k = grind (arith, nat_tests)

-- ---- what becomes of a body

pub hears_committed : (t : Subscription) (s new : State) (p : Place) (stood : Option Standing) (st : Standing)
    (body : Body) → stood ≡ Some st → st.uncommitted ≡ true → body ≡ bodies.Committed
    → new ≡ after_answer t s (commit_at t p st.position) (Some (Done bodies.Committed)) 0
    → Hears t s new (due t p stood) body Committed
hears_committed t s new p stood st body is on heard changed = grind (arith, nat_tests, cond-true)

-- so many of the records were taken in
pub took : (t : Subscription) (s : State) (p : Place) (position n after turn : ℕ) (rs : List (ℕ × Record))
    (inbox : Contents) (cursors : List Cursor) {tick : Tick} → n ≤ length rs → 0 < length rs
    → inbox ≡ taken_in s.inbox (arrivals p (take n rs)) → cursors ≡ with_progress s.cursors p n after
    → after ≡ behind position (take n rs) → turn ≡ s.turn
    → IsReport t tick
    (Called (record { request = fetch_at t p position; heard = Some (Done (bodies.Records rs)) }) n ∷ [])
    → Hears t s (state_with inbox cursors turn) (fetch_at t p position) (bodies.Records rs) tick
took t s p position n after turn rs inbox cursors low some taken moved passed stays answer =
    record { count = n; within = low; changed = grind (arith, nat_tests); answer = answer }

-- nothing kept a record out
pub all_passed : (fault : Option InboxFault) (P : Type 0) → IfNone fault P → fault ≡ None → P
all_passed fault P all is = grind (arith, nat_tests)

-- something did
pub cut_short : (fault : Option InboxFault) (f : InboxFault) (P : Type 0) → IfSome fault (λ _. P) → fault ≡ Some f → P
cut_short fault f P cut is = grind (arith, nat_tests)

-- ---- what a run makes of the inbox

taken_more : (events : Contents) (xs ys : List Arrival) → taken_in events (xs ++ ys) ≡ taken_in (taken_in events xs) ys
taken_more events [] ys = refl
taken_more events (x ∷ xs) ys = taken_more (with_record events (event_id x.message) x) xs ys

pub run_takes_in : (t : Subscription) (moves : List Move) (old new : State) → IsConsumerRun t old moves new
    → new.inbox ≡ taken_in old.inbox (taken_of moves)
run_takes_in t [] old new is = ap (λ (s : State). s.inbox) is
run_takes_in t (Restarted ∷ moves) old new run = run_takes_in t moves (after t old Restarted) new run.1
run_takes_in t (Called call count ∷ moves) old new run =
    grind (arith, nat_tests, run_takes_in t moves (after t old (Called call count)) new run.1, taken_more)
