-- The types, and words of the crates below, that most of these files cite.
pub use Rattle.kob_broker.specs.State.{State}
pub use Rattle.kob_inbox.specs.Contents.{taken_in, placed_intake}
pub use Rattle.kob_inbox.specs.Run.{IsConsumerRun, taken_of}
pub use Rattle.kob_inbox.specs.declared.fetcher.Subscription.{Subscription}
pub use Rattle.kob_router.specs.declared.line.Loss.{Loss}
pub use Rattle.kob_names.specs.declared.record.Record.{Record}
pub use Rattle.kob_names.specs.declared.settings.Settings.{Settings}
pub use Rattle.kob_outbox.specs.Contents.{id_text, stored_event, stored_row}
pub use Rattle.kob_partition.specs.Retained.{records_of, Retained}
pub use Rattle.kob_pipeline.specs.declared.end.InboxEnd.{InboxEnd}
pub use Rattle.kob_pipeline.specs.declared.end.OutboxEnd.{OutboxEnd}
pub use Rattle.kob_pipeline.specs.declared.end.WorkerEnd.{WorkerEnd}
pub use Rattle.kob_pipeline.specs.declared.plan.ConsumerPlan.{ConsumerPlan}
pub use Rattle.kob_pipeline.specs.declared.plan.Plan.{Plan}
pub use Rattle.kob_pipeline.specs.declared.plan.Service.{Service}
pub use Rattle.kob_pipeline.specs.declared.plan.ServiceStep.{ServiceStep}
pub use Rattle.kob_rights.specs.declared.reply.Reply.{Reply}
pub use Rattle.kob_rights.specs.declared.request.Request.{Request}
pub use Rattle.kob_router.specs.Run.{Dispatching, dispatch_of, IsRecordable, IsRouterRun}
pub use Rattle.kob_router.specs.Line.{AreServed, Served}
pub use Rattle.kob_router.specs.declared.line.Call.{Call}
pub use Rattle.kob_router.specs.declared.place.Place.{Place}
pub use Rattle.kob_shared.specs.Fleets.{BeginsWith, EachIsAnswered, IsAnswered, IsKept, IsTornAt, events_of_script}
pub use Rattle.kob_shared.specs.Runs.{NamesOneOf, events_in, notes_of, told_in}
pub use Rattle.kob_shared.specs.Journals.{AtDesk, Noted}
pub use Rattle.kob_shared.specs.declared.faults.CallFault.{CallFault}
pub use Rattle.kob_shared.specs.declared.journal.Entry.{Entry}
pub use Rattle.kob_broker.specs.Step.{state_of}
pub use Rattle.kob_rights.specs.declared.event.Event.{Event}
