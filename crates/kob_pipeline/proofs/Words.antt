-- The names that the lemmas cite, passed on from one place.
pub use Rattle.circular_buffer.proofs.Places.{slice_get-append_right}
pub use Rattle.kob_broker.specs.Step.{state_of}
pub use Rattle.kob_broker.specs.State.{settings_of}
pub use Rattle.kob_inbox.proofs.Ticking.{run_takes_in}
pub use Rattle.kob_inbox.specs.Contents.{Intake, placed_intake}
pub use Rattle.kob_connections.specs.Calls.{served_in}
pub use Rattle.kob_names.specs.Binding.{Binding}
pub use Rattle.kob_outbox.specs.Contents.{Contents, Event, IsRising, empty, first_after, later_than}
pub use Rattle.kob_outbox.specs.declared.change.Change.{Change}
pub use Rattle.kob_outbox.specs.declared.event.OutboxEvent.{OutboxEvent}
pub use Rattle.kob_delivery.specs.Delivered.{IsDelivered, IsPrefixOf, IsWaitingOrSent, ReachesInOrder}
pub use Rattle.kob_pipeline.specs.Plans.{rows_from, rows_of_service, workers_planned}
pub use Rattle.kob_pipeline.specs.Pipelines.{HasDone, HasLeft, IsEnd, IsNoneLost, IsPipeline, TakesInOrder, consumer_number, consumer_place, inbox_in, notes_in, outbox_in, records_at, service_number}
pub use Rattle.kob_delivery.specs.View.{ArePrivate, IsNeverDeleted, IsSoleCommitter, IsSoleProducer, IsHistory, opening_view, view_after}
pub use Rattle.kob_pipeline.specs.Served.{AreMade, AreNotedOrLost, AreServedByLoss, IsEventOf, served_by_notes}
pub use Rattle.kob_delivery.specs.Served.{IsConsumerPart, IsServicePart, served_to}
pub use Rattle.kob_pipeline.specs.Steps.{ConsumerGoesOn, Doing, HasEnded, HasWorked, IsConsumerStep, IsConsumption, IsInboxLeft, IsLeft, IsOfConsumerStep, IsOfServiceStep, IsOutboxLeft, IsServiceRun, IsServiceStep, IsWhole, Leads, Planned, ServiceGoesOn, WithDesk, Steps, planned_as, planned_workers, with_desk}
pub use Rattle.kob_pipeline.specs.Steps.Planned.{Administering, Consuming, Serving}
pub use Rattle.kob_pipeline.specs.Types.{AreServed, AtDesk, Call, CallFault, ConsumerPlan, Dispatching, EachIsAnswered, Entry, InboxEnd, IsAnswered, IsKept, Loss, Noted, OutboxEnd, Place, Plan, Reply, Request, Served, Service, ServiceStep, Settings, Subscription, WorkerEnd, dispatch_of, events_in, notes_of, stored_row, told_in}
pub use Rattle.kob_pipeline.specs.declared.end.PipelineEnd.{PipelineEnd}
pub use Rattle.kob_pipeline.specs.declared.end.WorkerEnd.TheVariants.{Inbox, Outbox}
pub use Rattle.kob_router.specs.Run.{IsRouterRun, Move, State, after, events_of}
pub use Rattle.kob_router.specs.Run.Move.{Called, Recorded, Restarted, Swept, Took}
pub use Rattle.kob_router.specs.Tick.{IsOfTick}
pub use Rattle.kob_shared.specs.Fleets.{Follows, claims, mine_from}
pub use Rattle.kob_shared.specs.Runs.{IsAsNoted, IsFullOnlyPast, IsNamedWithin, NamesOneOf}
pub use Rattle.kob_shared.specs.Journals.{IsLegal, entry_limit, opened_by, IsHeard, event_at, nothing}
pub use Rattle.kob_shared.specs.declared.journal.Receipt.{Receipt}
pub use Rattle.std.proofs.Common.{All, Bool, Err, IfOk, List, None, Ok, Option, Result, Some, [], ap, append-nil, append_assoc, arith, cond, drop, get_or, inl, inr, length, length-append, map, nat_lt, option_map, refl, rules, slice_get, slice_index_or, subst, suc, sym, take, vec_len, zero, ℕ, ◌*◌, ◌++◌, ◌+◌, ◌-◌, ◌<◌, ◌∙◌, ◌∷◌, ◌≡◌, ◌≤◌}
pub use Rattle.std.proofs.lemmas.Bool.{le-ltb, lt-ltb, ltb-true}
pub use Rattle.std.proofs.lemmas.Bool.Decides.{nat_tests}
pub use Rattle.std.proofs.lemmas.List.{append_cancel_left, get_or-map, get_or_push, length-map, map-append, take-append-drop, take_all, take_more}
pub use Rattle.std.proofs.lemmas.List.Elements.{All-cons, All-more, All-nil, recursion_from_All}
pub use Rattle.std.proofs.lemmas.Option.{get_or_from_slice_get, slice_get-get_or, slice_get-map, slice_get_within}
pub use Rattle.std.proofs.lemmas.Result.{IfOk-weaker, err_from_is_err_and}
pub use Rattle.std.proofs.lemmas.Simd.{map-map}
pub use Rattle.std.specs.List.{AllByRecursion, AllZip, enumerate_from, fold, sum_by}
pub use Rattle.std.specs.Prelude.{IfNone, IfSome, unwrap_or}
