-- Which faults stop what.
use Rattle.kob_scene_play.proofs.Words.{Err, IfErr, IsErrOf, Ok, PlayFault, Record, Result, Stage, Step, arith, inl, inr, length, subst, sym, ℕ, ◌≡◌}
use Rattle.std.specs.Prelude.{alloc_error}
use Rattle.kob_inbox.specs.declared.fault.InboxFault.{InboxFault}
use Rattle.kob_inbox.specs.declared.fault.InboxFault.TheVariants as of_inbox
use Rattle.kob_outbox.specs.declared.fault.OutboxFault.{OutboxFault}
use Rattle.kob_outbox.specs.declared.fault.OutboxFault.TheVariants as of_outbox
use Rattle.kob_scene_play.specs.Faults.{fault_of_call, fault_of_inbox, fault_of_outbox, fault_of_tick}
use Rattle.kob_scene_play.specs.Stops.{IsMemory, IsMemoryOrStore, MayStop, StopsConsumer, StopsConsumerAt, StopsQuestion, StopsRequest, StopsService, StopsServiceAt, StopsTick}
use Rattle.kob_scene_play.specs.declared.fault.PlayFault.TheVariants as play
use Rattle.kob_scene_play.specs.declared.fault.TickFault.{TickFault}
use Rattle.kob_scene_play.specs.declared.fault.TickFault.TheVariants as ticking
use Rattle.kob_scene_text.specs.declared.scene.ConsumerStep.{ConsumerStep}
use Rattle.kob_scene_text.specs.declared.scene.ConsumerStep.TheVariants as consumer_steps
use Rattle.kob_scene_text.specs.declared.scene.ServiceStep.{ServiceStep}
use Rattle.kob_scene_text.specs.declared.scene.ServiceStep.TheVariants as service_steps
use Rattle.kob_scene_text.specs.declared.scene.Step.TheVariants as steps
use Rattle.kob_shared.specs.Journals.{IsStaleOnlyBelow}
use Rattle.kob_shared.specs.declared.faults.CallFault.{CallFault}
use Rattle.kob_shared.specs.declared.faults.CallFault.TheVariants as of_call

-- want of memory stops each kind of step
pub memory_stops_tick : (fault : PlayFault) → IsMemory fault → StopsTick fault
memory_stops_tick fault is = subst StopsTick (sym is) tt

memory_stops_service : (step : ServiceStep) (fault : PlayFault) → IsMemory fault → StopsService step fault
memory_stops_service (service_steps.Record change event recording) fault is = inl is
memory_stops_service (service_steps.Tick loss) fault is = memory_stops_tick fault is
memory_stops_service service_steps.Run fault is = memory_stops_tick fault is
memory_stops_service service_steps.Restart fault is = is
memory_stops_service service_steps.Sweep fault is = inl is
memory_stops_service service_steps.Outbox fault is = is
memory_stops_service (service_steps.Business kind key) fault is = is
memory_stops_service service_steps.Visible fault is = is

memory_stops_consumer : (step : ConsumerStep) (fault : PlayFault) → IsMemory fault → StopsConsumer step fault
memory_stops_consumer (consumer_steps.Tick loss) fault is = memory_stops_tick fault is
memory_stops_consumer consumer_steps.Run fault is = memory_stops_tick fault is
memory_stops_consumer consumer_steps.Restart fault is = is
memory_stops_consumer consumer_steps.Inbox fault is = is

pub memory_stops : (step : Step) (stage : Stage) (fault : PlayFault) → IsMemory fault → MayStop step stage fault
memory_stops (steps.Request event) stage fault is = inl is
memory_stops (steps.Service which step) stage fault is = inr (memory_stops_service step fault is)
memory_stops (steps.Consumer which step) stage fault is = inr (memory_stops_consumer step fault is)
memory_stops steps.Journal stage fault is = is
memory_stops (steps.Law service consumer) stage fault is = inl is
memory_stops (steps.Check service consumer) stage fault is = inl is
memory_stops (steps.Expect service consumer what) stage fault is = inl is

-- what a tick says that has no result
pub tick_stops : (cause : TickFault) (fault : PlayFault) → fault ≡ fault_of_tick cause → StopsTick fault
tick_stops (ticking.Memory refused) fault is = subst StopsTick (sym is) tt
tick_stops ticking.JournalFull fault is = subst StopsTick (sym is) tt
tick_stops ticking.Store fault is = subst StopsTick (sym is) tt
tick_stops ticking.NotLost fault is = subst StopsTick (sym is) tt
tick_stops ticking.NotDue fault is = subst StopsTick (sym is) tt

-- what a database says
pub outbox_stops : (cause : OutboxFault) (fault : PlayFault) → fault ≡ fault_of_tick (fault_of_outbox cause)
    → IsMemoryOrStore fault
outbox_stops (of_outbox.Memory refused) fault is = inl is
outbox_stops of_outbox.Store fault is = inr is

pub inbox_stops : (cause : InboxFault) (fault : PlayFault) → fault ≡ fault_of_inbox cause → IsMemoryOrStore fault
inbox_stops (of_inbox.Memory refused) fault is = inl is
inbox_stops of_inbox.Store fault is = inr is

-- why a request was not served
pub request_stops : {T : Type 0} (served : Result T CallFault) (cause : CallFault) (before : Record) (fault : PlayFault)
    → served ≡ Err cause → fault ≡ fault_of_tick (fault_of_call cause) → IfErr served (IsStaleOnlyBelow 0)
    → (IsErrOf served of_call.JournalFull → length before.journal ≡ before.limit) → StopsRequest before fault
request_stops served (of_call.Memory refused) before fault same is stale full = inl is
request_stops served of_call.JournalFull before fault same is stale full = inr (is, full same)
request_stops served (of_call.Stale length) before fault same is stale full =
    let none = subst (λ r. IfErr r (IsStaleOnlyBelow 0)) same stale in
    absurd (omega (arith, none))

-- a step of a worker at its place
pub stops_service_at : {T : Type 0} (result : Result T PlayFault) (which : ℕ) (step : ServiceStep) (stage : Stage)
    → IfErr result (StopsService step) → IfErr result (StopsServiceAt which step stage)
stops_service_at (Ok done) which step stage stops = tt
stops_service_at (Err fault) which step stage stops = inr stops

pub stops_consumer_at : {T : Type 0} (result : Result T PlayFault) (which : ℕ) (step : ConsumerStep) (stage : Stage)
    → IfErr result (StopsConsumer step) → IfErr result (StopsConsumerAt which step stage)
stops_consumer_at (Ok done) which step stage stops = tt
stops_consumer_at (Err fault) which step stage stops = inr stops

-- an answer that was not printed
pub stops_question : {T : Type 0} (result : Result T PlayFault) (service consumer : ℕ) (stage : Stage)
    → IfErr result IsMemory → IfErr result (StopsQuestion service consumer stage)
stops_question (Ok done) service consumer stage stops = tt
stops_question (Err fault) service consumer stage stops = inl stops
