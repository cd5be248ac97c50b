-- What ends a scene before its last step, by what ended a part of a step.
use Rattle.std.specs.Prelude.{Bool, true, false, Option, Some, None, Result, Ok, Err}
use Rattle.std.specs.Option.{option_map}
use Rattle.kob_inbox.specs.declared.fault.InboxFault.{InboxFault}
use Rattle.kob_inbox.specs.declared.fault.InboxFault.TheVariants as of_inbox
use Rattle.kob_inbox.specs.declared.tick.Tick.{Tick as ConsumerTick}
use Rattle.kob_inbox.specs.declared.tick.Tick.TheVariants as consumer_tick
use Rattle.kob_outbox.specs.declared.fault.OutboxFault.{OutboxFault}
use Rattle.kob_outbox.specs.declared.fault.OutboxFault.TheVariants as of_outbox
use Rattle.kob_router.specs.declared.tick.StopReason.{StopReason}
use Rattle.kob_router.specs.declared.tick.StopReason.TheVariants as stop
use Rattle.kob_router.specs.declared.tick.Tick.{Tick as ServiceTick}
use Rattle.kob_router.specs.declared.tick.Tick.TheVariants as service_tick
use Rattle.kob_scene_play.specs.declared.fault.PlayFault.{PlayFault}
use Rattle.kob_scene_play.specs.declared.fault.PlayFault.TheVariants as play
use Rattle.kob_scene_play.specs.declared.fault.TickFault.{TickFault}
use Rattle.kob_scene_play.specs.declared.fault.TickFault.TheVariants.{Memory, JournalFull, NotDue, NotLost, Store}
use Rattle.kob_shared.specs.declared.faults.CallFault.{CallFault}
use Rattle.kob_shared.specs.declared.faults.CallFault.TheVariants as of_call

-- a tick has no result
abbrev pub fault_of_tick : TickFault → PlayFault
fault_of_tick (Memory e) = play.Memory e
fault_of_tick JournalFull = play.JournalFull
fault_of_tick Store = play.Store
fault_of_tick NotLost = play.NotLost
fault_of_tick NotDue = play.NotDue

abbrev pub fault_of_call : CallFault → TickFault
fault_of_call (of_call.Memory e) = Memory e
fault_of_call of_call.JournalFull = JournalFull
fault_of_call (of_call.Stale length) = JournalFull

-- the fault that a line keeps itself, or else that of the line below
abbrev pub line_fault : Option CallFault → Option CallFault → Option TickFault
line_fault (Some fault) below = Some (fault_of_call fault)
line_fault None below = option_map fault_of_call below

-- a tick that failed has no result, nor one whose loss was not as it was set
abbrev pub unless_failed : {T : Type 0} → Option TickFault → Bool → T → Result T TickFault
unless_failed (Some fault) is_lost answer = Err fault
unless_failed None true answer = Ok answer
unless_failed None false answer = Err NotLost

abbrev pub fault_of_outbox : OutboxFault → TickFault
fault_of_outbox (of_outbox.Memory e) = Memory e
fault_of_outbox of_outbox.Store = Store

abbrev pub fault_of_inbox : InboxFault → PlayFault
fault_of_inbox (of_inbox.Memory e) = play.Memory e
fault_of_inbox of_inbox.Store = play.Store

-- the fault of a tick that ran out of memory or whose database failed; every other stop is a result
abbrev pub fault_of_stop : StopReason → Option TickFault
fault_of_stop (stop.Memory e) = Some (Memory e)
fault_of_stop stop.Store = Some Store
fault_of_stop reason = None

abbrev pub stop_of_service : ServiceTick → Option TickFault
stop_of_service (service_tick.Stopped reason) = fault_of_stop reason
stop_of_service tick = None

abbrev pub stop_of_consumer : ConsumerTick → Option TickFault
stop_of_consumer (consumer_tick.Stopped reason) = fault_of_stop reason
stop_of_consumer tick = None
