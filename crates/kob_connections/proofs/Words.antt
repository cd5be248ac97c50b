-- The names that the lemmas cite, passed on from one place.
pub use Rattle.kob_broker.specs.Step.{state_of, step}
pub use Rattle.kob_inbox.specs.Run.{IsConsumerRun, Move, after, calls_of, start}
pub use Rattle.kob_inbox.specs.Run.Move.{Called, Restarted}
pub use Rattle.kob_inbox.specs.Tick.{Point, Ticks}
pub use Rattle.kob_inbox.specs.declared.fetcher.Subscription.{Subscription}
pub use Rattle.kob_inbox.specs.declared.tick.Tick.{Tick}
pub use Rattle.kob_connections.specs.Calls.{ArePassedOn, GainsAtMost, GoesOnBy, IsEntryOf, IsHeardOf, IsJournaled, IsMadeBelow, IsSent, IsServedIfHeard, IsServedInSession, Journals, KeepsSeat, MakesCalls, PassesCallsOn, PassesOn, ServesAs, ServesEach, reply_of, served_in}
pub use Rattle.kob_connections.specs.Joined.{added_append, calls_are_made, no_call_is_made}
pub use Rattle.kob_connections.specs.Relayed.{HasConsumerRun, HasServiceRun, HoldsFirst, Relayed}
pub use Rattle.kob_router.specs.declared.line.Loss.{Loss}
pub use Rattle.kob_names.specs.declared.settings.Settings.{Settings}
pub use Rattle.kob_outbox.proofs.Lawful.{swept_waits}
pub use Rattle.kob_outbox.specs.Contents.{Contents, empty, stored_event, later_than, up_to, without_sent, after_record, next_seq}
pub use Rattle.kob_outbox.specs.declared.change.Change.{Change}
pub use Rattle.kob_outbox.specs.declared.event.OutboxEvent.{OutboxEvent}
pub use Rattle.kob_outbox.specs.declared.fault.OutboxFault.{OutboxFault}
pub use Rattle.kob_outbox.specs.declared.fault.RecordFault.{RecordFault}
pub use Rattle.kob_partition.specs.Retained.{Retained, retained_meaning}
pub use Rattle.kob_rights.specs.Requests.{Fits}
pub use Rattle.kob_rights.specs.declared.event.Event.{Event}
pub use Rattle.kob_rights.specs.declared.reply.Reply.{Reply}
pub use Rattle.kob_rights.specs.declared.request.Request.{Request}
pub use Rattle.kob_router.proofs.Runs.{calls_append, run_append}
pub use Rattle.kob_router.specs.Run.{Dispatching, Hand, IsRecordable, IsRouterRun, State, after_acknowledgement, events_of}
pub use Rattle.kob_router.specs.Run.Move.{Recorded, Swept, Took}
pub use Rattle.kob_router.specs.Tick.{IsFirst, IsOfTick, IsOneTick}
pub use Rattle.kob_router.specs.Line.{AreServed, Served}
pub use Rattle.kob_router.specs.declared.line.Call.{Call}
pub use Rattle.kob_router.specs.declared.line.Delivery.{Delivery}
pub use Rattle.kob_router.specs.declared.line.Delivery.TheVariants.{Delivered, Lost}
pub use Rattle.kob_shared.proofs.Journals.{reply_fits}
pub use Rattle.kob_shared.specs.Journals.{Record, after_event, entry, outcome_of, Seat, event_by}
pub use Rattle.std.proofs.Common.{List, None, Option, Some, [], ap, append-nil, arith, false, inl, inr, length, map, refl, subst, sym, take, true, ℕ, ◌++◌, ◌+◌, ◌∙◌, ◌∷◌, ◌≡◌, ◌⊎◌}
pub use Rattle.std.proofs.lemmas.Bool.Decides.{nat_tests}
pub use Rattle.std.proofs.lemmas.List.{map-append}
pub use Rattle.std.proofs.lemmas.List.Elements.{All-append, All-cons, All-nil, filter-append}
pub use Rattle.std.specs.List.{AllByRecursion}
pub use Rattle.std.specs.Prelude.{Err, IfOk, Ok, OnErr, OnOk, Result, slice_get}
