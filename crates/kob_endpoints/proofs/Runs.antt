-- What becomes of the runs of a service and of a consumer.
use Rattle.kob_endpoints.proofs.Words.{Call, Change, Err, Event, Fetcher, HasConsumerRun, HasRun, HasServiceRun, IsReaderRun, IsSenderRun, IsTick, List, None, Ok, OnErr, OnOk, OutboxEvent, RecordFault, RecordsNoRow, Relayed, Restarted, Result, Subscription, Target, Tick, [], after_record, ap, arith, dispatch_of, empty, false, first_bad, id_text, is_recorded, nat_tests, next_seq, records, point_of, stored_event, subst, sym, ticks, ℕ, ◌++◌, ◌<◌, ◌^◌, ◌∙◌, ◌∷◌, ◌≡◌}
use Rattle.kob_endpoints.specs.Running.{IsSomeTick, OfSomeService, at}
use Rattle.std.specs.Prelude.{IfOk}
use Rattle.kob_router.specs.Run.{calls_of}
use Rattle.kob_router.specs.Tick.{state_of}
use Rattle.std.proofs.Common.{append_assoc}
use Rattle.kob_inbox.specs.Contents.{Contents as Inbox}
use Rattle.kob_inbox.specs.Run as consumer
use Rattle.kob_inbox.specs.Tick as taken
use Rattle.kob_inbox.specs.declared.tick.Tick as taken_tick
use Rattle.kob_connections.proofs.ConsumerCourses as consumer_courses
use Rattle.kob_connections.proofs.ServiceCourses as service_courses
use Rattle.kob_outbox.specs.Contents.{without_sent}
use Rattle.kob_router.specs.Run as router
use Rattle.kob_router.specs.Run.{Move as router_moves}

-- a service begins

abbrev pub fresh : Target → Relayed
fresh target = record {
  outbox = empty;
  router = record { target = target; producer = None; sequences = []; hand = None };
}

pub service_begins : (r : Relayed) (target : Target) (calls : List Call) → r ≡ fresh target → calls ≡ []
    → HasRun r calls
service_begins r target calls is none = grind (arith, nat_tests)

-- an event is recorded
pub recorded : (old new : Relayed) (calls : List Call) (change : Change) (event : OutboxEvent)
    → new ≡ record old { outbox = after_record old.outbox change event }
    → first_bad change event ≡ None → is_recorded old.outbox.ids (id_text event.id) ≡ false
    → next_seq old.outbox < 2 ^ 63
    → (rows : List Event) → IsSenderRun old calls rows
    → IsSenderRun new calls (rows ++ stored_event (next_seq old.outbox) event ∷ [])
recorded old new calls change event is fits fresh room rows was =
    subst (λ (r : Relayed). IsSenderRun r calls (rows ++ stored_event (next_seq old.outbox) event ∷ [])) (sym is)
    (records (dispatch_of old.router.target) (state_of old.router old.outbox) calls rows change event was
    (record { fits = fits; fresh = fresh; room = room }))

-- an event is recorded, or not
pub run_of_a_record : (old new : Relayed) (calls : List Call) (change : Change) (event : OutboxEvent)
    (result : Result ℕ RecordFault) → HasRun old calls
    → OnOk result (new ≡ record old { outbox = after_record old.outbox change event })
    → OnErr result (new ≡ old)
    → OnOk result (first_bad change event ≡ None)
    → OnOk result (is_recorded old.outbox.ids (id_text event.id) ≡ false)
    → OnOk result (next_seq old.outbox < 2 ^ 63) → HasRun new calls
run_of_a_record old new calls change event (Ok seq) was ok err fits fresh room = (
  was.0 ++ stored_event (next_seq old.outbox) event ∷ [],
  recorded old new calls change event ok fits fresh room was.0 was.1,
)
run_of_a_record old new calls change event (Err fault) was ok err fits fresh room = grind (arith, nat_tests)

pub rows_of_a_record : (old new : Relayed) (calls : List Call) (change : Change) (event : OutboxEvent)
    (result : Result ℕ RecordFault)
    → OnOk result (new ≡ record old { outbox = after_record old.outbox change event })
    → OnOk result (first_bad change event ≡ None)
    → OnOk result (is_recorded old.outbox.ids (id_text event.id) ≡ false)
    → OnOk result (next_seq old.outbox < 2 ^ 63)
    → OnOk result ((rows : List Event) → IsSenderRun old calls rows
    → IsSenderRun new calls (rows ++ stored_event (next_seq old.outbox) event ∷ []))
rows_of_a_record old new calls change event (Ok seq) ok fits fresh room =
    recorded old new calls change event ok fits fresh room
rows_of_a_record old new calls change event (Err fault) ok fits fresh room = tt

-- the router ticks
pub ticked : (old new : Relayed) (calls then_calls : List Call) (unmade then_unmade : ℕ) (tick : Tick)
    → IsTick old new calls then_calls unmade then_unmade tick → RecordsNoRow old calls new then_calls
ticked old new calls then_calls unmade then_unmade tick is rows was =
    subst (λ (t : Target). HasServiceRun (dispatch_of t) (state_of new.router new.outbox) then_calls rows) (sym is.0)
    (ticks (dispatch_of old.router.target) (point_of old.router old.outbox calls unmade)
    (point_of new.router new.outbox then_calls then_unmade) tick rows was is.1)

-- the same step, after the calls of earlier lines
tick_after : (earlier : List Call) (old new : Relayed) (calls then_calls : List Call)
    (unmade then_unmade : ℕ) (tick : Tick) → IsTick old new calls then_calls unmade then_unmade tick
    → IsTick old new (earlier ++ calls) (earlier ++ then_calls) unmade then_unmade tick
tick_after earlier old new calls then_calls unmade then_unmade tick is = let done = is.1 in (
  is.0,
  record {
    moves = done.moves;
    own = done.own;
    run = done.run;
    calls = ap (λ (made : List Call). earlier ++ made) done.calls
        ∙ sym (append_assoc earlier calls (calls_of done.moves));
    few = done.few;
    answer = done.answer;
    held = done.held;
  },
)

pub ticked_after : (earlier : List Call) (old new : Relayed) (calls then_calls : List Call)
    (unmade then_unmade : ℕ) (tick : Tick) → IsTick old new calls then_calls unmade then_unmade tick
    → RecordsNoRow old (earlier ++ calls) new (earlier ++ then_calls)
ticked_after earlier old new calls then_calls unmade then_unmade tick is =
    ticked old new (earlier ++ calls) (earlier ++ then_calls) unmade then_unmade tick
    (tick_after earlier old new calls then_calls unmade then_unmade tick is)

-- the router restarts
pub restarted : (old new : Relayed) (calls : List Call) → new.router.target ≡ old.router.target
    → state_of new.router new.outbox ≡ router.after (state_of old.router old.outbox) router_moves.Restarted
    → RecordsNoRow old calls new calls
restarted old new calls same is rows was =
    subst (λ (t : Target). HasServiceRun (dispatch_of t) (state_of new.router new.outbox) calls rows) (sym same)
    (subst (λ (s : router.State). HasServiceRun (dispatch_of old.router.target) s calls rows) (sym is)
    (service_courses.restarts (dispatch_of old.router.target) (state_of old.router old.outbox) calls rows was))

-- the events that were sent are deleted
pub swept : (old new : Relayed) (calls : List Call)
    → new ≡ record old { outbox = without_sent old.outbox.mark old.outbox } → RecordsNoRow old calls new calls
swept old new calls is rows was =
    subst (λ (r : Relayed). IsSenderRun r calls rows) (sym is)
    (service_courses.sweeps (dispatch_of old.router.target) (state_of old.router old.outbox) calls rows was)

-- some service made the tick
pub some_tick : (earlier : List Call) (before now : Relayed) (calls then_calls : List Call)
    (unmade then_unmade : ℕ) (tick : Tick) → HasRun before (earlier ++ calls)
    → IsTick before now calls then_calls unmade then_unmade tick → IsSomeTick tick
some_tick earlier before now calls then_calls unmade then_unmade tick ran made = record {
  before = at before (earlier ++ calls) unmade;
  now = at now (earlier ++ then_calls) then_unmade;
  ran = ran;
  made = tick_after earlier before now calls then_calls unmade then_unmade tick made;
}

-- what was read or counted is so of some service
pub some_service : {A E : Type 0} (P : A → Relayed → Type 0) (r : Relayed) (calls : List Call) (result : Result A E)
    → HasRun r calls → IfOk result (λ value. P value r) → IfOk result (λ value. OfSomeService (P value))
some_service P r calls (Ok value) ran is = (r, (calls, ran), is)
some_service P r calls (Err fault) ran is = tt

-- no line was handed out, and the line made no call
pub no_call : (was made : List Call) → was ≡ [] → made ≡ [] → was ++ made ≡ []
no_call was made one two = ap (λ (calls : List Call). calls ++ made) one ∙ two

-- a consumer begins, ticks, and starts again

abbrev pub begun : Inbox → consumer.State
begun inbox = record { inbox = inbox; cursors = []; turn = 0 }

pub consumer_begins : (f : Fetcher) (inbox : Inbox) (calls : List Call) → taken.state_of f inbox ≡ begun inbox
    → inbox ≡ [] → calls ≡ [] → IsReaderRun f inbox calls
consumer_begins f inbox calls is empty none = grind (arith, nat_tests)

pub consumer_ticked : (earlier : List Call) (old new : Fetcher) (inbox then_inbox : Inbox) (calls then_calls : List Call)
    (unmade then_unmade : ℕ) (tick : taken_tick.Tick) → new.subscription ≡ old.subscription
    → taken.Ticks old.subscription (taken.point_of old inbox calls unmade)
    (taken.point_of new then_inbox then_calls then_unmade) tick
    → IsReaderRun old inbox (earlier ++ calls) → IsReaderRun new then_inbox (earlier ++ then_calls)
consumer_ticked earlier old new inbox then_inbox calls then_calls unmade then_unmade tick same done was =
    subst (λ (t : Subscription). HasConsumerRun t (taken.state_of new then_inbox) (earlier ++ then_calls)) (sym same)
    (consumer_courses.ticks old.subscription (taken.point_of old inbox (earlier ++ calls) unmade)
    (taken.point_of new then_inbox (earlier ++ then_calls) then_unmade) tick was (record {
      moves = done.moves;
      run = done.run;
      calls = ap (λ (made : List Call). earlier ++ made) done.calls
          ∙ sym (append_assoc earlier calls (consumer.calls_of done.moves));
      answer = done.answer;
      counted = done.counted;
    }))

pub consumer_restarted : (old new : Fetcher) (inbox then_inbox : Inbox) (calls : List Call)
    → new.subscription ≡ old.subscription
    → taken.state_of new then_inbox ≡ consumer.after old.subscription (taken.state_of old inbox) Restarted
    → IsReaderRun old inbox calls → IsReaderRun new then_inbox calls
consumer_restarted old new inbox then_inbox calls same is was =
    subst (λ (t : Subscription). HasConsumerRun t (taken.state_of new then_inbox) calls) (sym same)
    (subst (λ (s : consumer.State). HasConsumerRun old.subscription s calls) (sym is)
    (consumer_courses.restarts old.subscription (taken.state_of old inbox) calls was))
