-- The names that the lemmas cite, passed on from one place.
pub use Rattle.kob_broker.specs.State.{State}
pub use Rattle.kob_endpoints.specs.Running.{HasRun, ReachesReader, IsReaderRun, IsSenderRun, ReaderLeft, RecordsNoRow, ServiceLeft}
pub use Rattle.kob_inbox.specs.Contents.{placed_intake}
pub use Rattle.kob_inbox.specs.Run.Move.{Restarted}
pub use Rattle.kob_inbox.specs.Tick.{state_of}
pub use Rattle.kob_inbox.specs.declared.fetcher.Fetcher.{Fetcher}
pub use Rattle.kob_inbox.specs.declared.fetcher.Subscription.{Subscription}
pub use Rattle.kob_connections.proofs.ConsumerCourses.{begins}
pub use Rattle.kob_connections.proofs.ServiceCourses.{records, ticks}
pub use Rattle.kob_connections.specs.Calls.{served_in}
pub use Rattle.kob_connections.specs.Relayed.{HasConsumerRun, HasServiceRun, IsTick, Relayed}
pub use Rattle.kob_names.specs.declared.settings.Settings.{Settings}
pub use Rattle.kob_outbox.specs.Contents.{Contents, Event, empty, id_text, stored_event, first_bad, after_record, is_recorded, next_seq}
pub use Rattle.kob_outbox.specs.declared.change.Change.{Change}
pub use Rattle.kob_outbox.specs.declared.event.OutboxEvent.{OutboxEvent}
pub use Rattle.kob_outbox.specs.declared.fault.RecordFault.{RecordFault}
pub use Rattle.kob_partition.specs.Retained.{Retained}
pub use Rattle.kob_delivery.proofs.BrokerSteps.{legal_is_history}
pub use Rattle.kob_delivery.proofs.Laws.{holds_a_prefix}
pub use Rattle.kob_delivery.specs.Delivered.{ReachesInOrder}
pub use Rattle.kob_delivery.specs.View.{ArePrivate, view_after}
pub use Rattle.kob_delivery.specs.Served.{served_to}
pub use Rattle.kob_router.specs.Run.{dispatch_of}
pub use Rattle.kob_router.specs.Line.{AreServed}
pub use Rattle.kob_router.specs.Tick.{point_of}
pub use Rattle.kob_router.specs.declared.dispatch.Target.{Target}
pub use Rattle.kob_router.specs.declared.line.Call.{Call}
pub use Rattle.kob_router.specs.declared.place.Place.{Place}
pub use Rattle.kob_router.specs.declared.sender.Sender.{Sender}
pub use Rattle.kob_router.specs.declared.tick.Tick.{Tick}
pub use Rattle.kob_shared.specs.Journals.{IsLegal, events_of, opened_by}
pub use Rattle.kob_shared.specs.declared.journal.Entry.{Entry}
pub use Rattle.std.proofs.Common.{List, [], ap, append-nil, arith, drop, false, get_or, length, map, refl, rules, subst, suc, sym, take, true, zero, ℕ, ◌++◌, ◌+◌, ◌-◌, ◌<◌, ◌==◌, ◌^◌, ◌∙◌, ◌∷◌, ◌≡◌, ◌≤◌}
pub use Rattle.std.proofs.lemmas.Bool.{eq-eqb, ne_eqb}
pub use Rattle.std.proofs.lemmas.Bool.Decides.{nat_tests}
pub use Rattle.std.proofs.lemmas.List.{drop_more, length-map, take_all}
pub use Rattle.std.proofs.lemmas.Result.{err_from_is_err_and}
pub use Rattle.std.proofs.lemmas.List.FromFn.{length-enumerate_from}
pub use Rattle.std.specs.Prelude.{Err, None, Ok, OnErr, OnOk, Result, Some, if◌then◌else◌, slice_get, ◌↔◌, ◌⊎◌}
