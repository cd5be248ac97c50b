-- The moves of a router, one at a time: what they record, keep along a journal, and leave of the rows.
use Rattle.kob_delivery.proofs.Words.{All-filter, All-from_recursion, AllByRecursion, AreServed, Bool, Call, Called, Contents, Dispatching, Entry, Event, Hand, IsRouterRun, List, May, Move, None, Option, Recorded, Restarted, Some, State, Swept, Took, [], after, after_acknowledgement, after_record, ap, append-nil, arith, calls_of, events_of, false, filter_map, id_text, later_than, lt-ltb, nat_lt, nat_tests, next_seq, recursion_from_All, refl, served_to, start, stored_event, subst, sym, true, ℕ, ◌++◌, ◌<◌, ◌∷◌, ◌≡◌}
use Rattle.kob_delivery.proofs.ServedRuns.{IsRun, IsServedBy, IsUnheard, Passes, added, kept_by_run}
use Rattle.kob_delivery.proofs.Lists.{all_last, all_weaker, filter_all}

abbrev pub call_of : Move → Option Call
call_of (Called call marks) = Some call
call_of _ = None

abbrev pub recorded : State → Move → List Event
recorded s (Recorded change event) = stored_event (next_seq s.outbox) event ∷ []
recorded s _ = []

-- the events that moves record depend on the ids that were recorded alone
pub same_events : (moves : List Move) (c d : Contents) → c.ids ≡ d.ids → events_of c moves ≡ events_of d moves
same_events [] c d e = refl
same_events (Recorded change event ∷ moves) c d e = cc (same_events moves (after_record c change event) (after_record d change event) (ap (λ (ids : List (List ℕ)). ids ++ id_text event.id ∷ []) e))
same_events (_ ∷ moves) c d e = same_events moves c d e

-- a call moves the mark at most
called_outbox : (s : State) (call : Call) (marks : Bool) → (mark : ℕ)
    × ((after s (Called call marks)).outbox ≡ record s.outbox { mark = mark })
called_outbox s call true = by s.hand
  where
    by : (o : Option Hand) → (mark : ℕ) × ((after_acknowledgement s o).outbox ≡ record s.outbox { mark = mark })
    by None = (s.outbox.mark, refl)
    by (Some h) = (h.event.seq, refl)
called_outbox s call false = (s.outbox.mark, refl)

pub called_ids : (s : State) (call : Call) (marks : Bool) → (after s (Called call marks)).outbox.ids ≡ s.outbox.ids
called_ids s call marks = ap (λ (c : Contents). c.ids) (called_outbox s call marks).1

-- what one move records, and then the others
pub events_behind : (s : State) (move : Move) (moves : List Move)
    → events_of s.outbox (move ∷ moves) ≡ recorded s move ++ events_of (after s move).outbox moves
events_behind s move moves = grind (arith, nat_tests, same_events, called_ids)

events_added : (moves : List Move) (s : State) → events_of s.outbox moves ≡ added after recorded s moves
events_added [] s = refl
events_added (move ∷ moves) s = cc (events_behind s move moves, events_added moves (after s move))

pub its_calls : (moves : List Move) → calls_of moves ≡ filter_map call_of moves
its_calls [] = refl
its_calls (Called call marks ∷ moves) = ap (λ (cs : List Call). call ∷ cs) (its_calls moves)
its_calls (_ ∷ moves) = its_calls moves

is_run : (route : Dispatching) (moves : List Move) (s t : State) → IsRouterRun route s moves t
    → IsRun (May route) after s moves t
is_run route [] s t run = run
is_run route (move ∷ moves) s t run = (run.0, is_run route moves (after s move) t run.1)

-- what is kept along a journal holds at the end, of all rows
module _ {B : Type 0} (route : Dispatching) (worker : ℕ) (Goes : B → Entry → B → Type 0)
    (K : List Event → State → B → Type 0)
    (moved : (m : Move) (rows : List Event) (s : State) (b : B) → May route s m → IsUnheard (call_of m) → K rows s b
    → K (rows ++ recorded s m) (after s m) b)
    (served : (c : Call) (marks : Bool) (rows : List Event) (s : State) (e : Entry) (b d : B)
    → May route s (Called c marks) → IsServedBy e (Some c) → e.worker ≡ worker → Goes b e d → K rows s b
    → K rows (after s (Called c marks)) d)
    (others : (rows : List Event) (s : State) (e : Entry) (b d : B) → (e.worker ≡ worker → ⊥) → Goes b e d
    → K rows s b → K rows s d) where
  serves : (m : Move) (rows : List Event) (s : State) (e : Entry) (b d : B) → May route s m
      → IsServedBy e (call_of m) → e.worker ≡ worker → Goes b e d → K rows s b
      → K (rows ++ recorded s m) (after s m) d
  serves m rows s e b d may by own goes k = grind (arith, nat_tests, append-nil)

  pub kept_by_router : (moves : List Move) (final : State) (journal : List Entry) (b end : B)
      → IsRouterRun route start moves final → AreServed (calls_of moves) (served_to worker journal)
      → Passes Goes b journal end → K [] start b → K (events_of start.outbox moves) final end
  kept_by_router moves final journal b end run a p k = rw (events_added moves start) (kept_by_run (May route) after call_of recorded worker Goes K moved serves others final end moves start journal b (is_run route moves start final run) (rw (← (its_calls moves)) a) p k)

-- ---- the numbers of an outbox's rows are positive, so that a read from 0 on gives all

-- each row has a positive number
abbrev IsNumber : Event → Type 0
IsNumber e = 0 < e.seq

abbrev IsNumbered : List Event → Type 0
IsNumbered events = AllByRecursion IsNumber events

move_numbered : (s : State) (move : Move) → IsNumbered s.outbox.events → IsNumbered (after s move).outbox.events
move_numbered s (Recorded change event) is = grind (arith, nat_tests, all_last)
move_numbered s Swept is = grind (arith, nat_tests, recursion_from_All IsNumber (later_than s.outbox.mark s.outbox.events) (All-filter (λ (e : Event). nat_lt s.outbox.mark e.seq) IsNumber s.outbox.events (All-from_recursion IsNumber s.outbox.events is)))
move_numbered s Restarted is = is
move_numbered s (Took hand) is = is
move_numbered s (Called call marks) is = grind (arith, nat_tests)

pub run_numbered : (route : Dispatching) (moves : List Move) (old new : State) → IsRouterRun route old moves new
    → IsNumbered old.outbox.events → IsNumbered new.outbox.events
run_numbered route [] old new run is = subst (λ (s : State). IsNumbered s.outbox.events) (sym run) is
run_numbered route (move ∷ moves) old new run is =
    run_numbered route moves (after old move) new run.1 (move_numbered old move is)

-- none is left out
pub all_later : (events : List Event) → IsNumbered events → later_than 0 events ≡ events
all_later events is = grind (arith, nat_tests, filter_all, all_weaker, lt-ltb)
