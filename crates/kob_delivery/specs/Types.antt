-- The types, and words of the crates below, that most of these files cite.
pub use Rattle.kob_broker.specs.State.{State, open_state}
pub use Rattle.kob_inbox.specs.Contents.{Arrival, taken_in}
pub use Rattle.kob_inbox.specs.Run.{IsConsumerRun, place_at, taken_of}
pub use Rattle.kob_inbox.specs.declared.fetcher.Subscription.{Subscription}
pub use Rattle.kob_names.specs.declared.record.Record.{Record}
pub use Rattle.kob_names.specs.declared.settings.Settings.{Settings}
pub use Rattle.kob_outbox.specs.Contents.{id_text, stored_event}
pub use Rattle.kob_partition.specs.Retained.{Plain, history, records_of, Retained, plain_meaning}
pub use Rattle.kob_rights.specs.declared.reply.Body.{Body}
pub use Rattle.kob_rights.specs.declared.reply.Reply.{Reply}
pub use Rattle.kob_rights.specs.declared.request.Request.{Request}
pub use Rattle.kob_rights.specs.declared.request.Request.TheVariants.{DeleteGroups, DeleteTopics, Fetch, InitProducerId, OffsetCommit, OffsetFetch, Produce}
pub use Rattle.kob_router.specs.Run.{Dispatching, dispatch_of, same_place, Move, events_of}
pub use Rattle.kob_router.specs.Line.{AreServed, Served}
pub use Rattle.kob_router.specs.declared.line.Call.{Call}
pub use Rattle.kob_router.specs.declared.place.Place.{Place}
pub use Rattle.kob_shared.specs.declared.journal.Entry.{Entry}
pub use Rattle.kob_rights.specs.declared.reply.Reply.TheVariants.{Denied, Done, Refused}
pub use Rattle.kob_broker.specs.Step.{state_after}
