-- The names that the lemmas cite, passed on from one place.
pub use Rattle.kob_broker.specs.State.{State}
pub use Rattle.kob_inbox.specs.Contents.{Intake}
pub use Rattle.kob_inbox.specs.declared.fetcher.Subscription.{Subscription}
pub use Rattle.kob_names.specs.Binding.{covers, reaches}
pub use Rattle.kob_names.specs.declared.batch.Batch.{Batch}
pub use Rattle.kob_names.specs.declared.batch.Idem.{Idem}
pub use Rattle.kob_names.specs.declared.draft.Draft.{Draft}
pub use Rattle.kob_names.specs.declared.kinds.Operation.{Operation}
pub use Rattle.kob_names.specs.declared.kinds.Operation.TheVariants.{Read, Write}
pub use Rattle.kob_names.specs.declared.kinds.PatternKind.TheVariants.{Literal}
pub use Rattle.kob_names.specs.declared.kinds.Permission.TheVariants.{Allow}
pub use Rattle.kob_names.specs.declared.kinds.ResourceKind.{ResourceKind}
pub use Rattle.kob_names.specs.declared.kinds.ResourceKind.TheVariants.{Group, Topic}
pub use Rattle.kob_names.specs.declared.record.Record.{Record}
pub use Rattle.kob_names.specs.declared.settings.Settings.{Settings}
pub use Rattle.kob_outbox.specs.Contents.{Event, id_text, stored_event}
pub use Rattle.kob_outbox.specs.declared.change.Change.{Change}
pub use Rattle.kob_outbox.specs.declared.event.OutboxEvent.{OutboxEvent}
pub use Rattle.kob_partition.specs.Retained.{records_of, Retained}
pub use Rattle.kob_delivery.proofs.Laws.{holds_a_prefix, holds_a_prefix_among}
pub use Rattle.kob_delivery.specs.Delivered.{IsCopy, IsDelivered, IsPrefixOf, IsTakenInOrder, ReachesInOrder, firsts, goes_to, routed_to, rows_of, ids_of, rows_of_aggregate, taken_ids, taken_of_aggregate, carried_id}
pub use Rattle.kob_delivery.specs.View.{ActsAlone, ArePrivate, Commits, IsNeverDeleted, IsPrivate, IsReserved, IsReservedFor, IsSoleCommitter, IsSoleProducer, NoSuperUser, Produces, Gives, IsHistory, IsSameView, View, opening_view, with_batch, with_commit, with_producer, without_topic}
pub use Rattle.kob_delivery.specs.Reserved.{LeavesReserved}
pub use Rattle.kob_delivery.specs.Repeats.{copies_of, restarts_of}
pub use Rattle.kob_delivery.specs.Several.{AreRoutedTo, AreSharedTopics, IsOwnOrApart, IsSharedTopic, is_one_of}
pub use Rattle.kob_delivery.specs.Served.{IsConsumerPart, IsServicePart}
pub use Rattle.kob_rights.specs.declared.code.Code.TheVariants.{TopicAuthorizationFailed}
pub use Rattle.kob_rights.specs.declared.reply.Reply.{Reply}
pub use Rattle.kob_rights.specs.declared.reply.Reply.TheVariants.{Denied, Done}
pub use Rattle.kob_rights.specs.declared.request.Request.{Request}
pub use Rattle.kob_rights.specs.declared.request.Request.TheVariants.{CreateAcls, CreateTopics, DeleteAcls, DeleteTopics, Fetch, InitProducerId, OffsetCommit, OffsetFetch, Produce}
pub use Rattle.kob_router.specs.Run.{dispatch_of, place_of, Hand, batch_of}
pub use Rattle.kob_router.specs.declared.dispatch.Target.{Target}
pub use Rattle.kob_router.specs.declared.line.Call.{Call}
pub use Rattle.kob_router.specs.declared.place.Place.{Place}
pub use Rattle.kob_router.specs.declared.sender.Producer.{Producer}
pub use Rattle.kob_shared.specs.Journals.{IsLegal, bindings_after, opened_by, standing_after}
pub use Rattle.kob_shared.specs.declared.journal.Entry.{Entry}
pub use Rattle.std.proofs.Common.{Bool, Global, List, String, [], ap, arith, false, get_or, inl, inr, refl, subst, suc, sym, true, zero, ℕ, ◌&&◌, ◌+◌, ◌<◌, ◌||◌, ◌∙◌, ◌∷◌, ◌≡◌, ◌≤◌}
pub use Rattle.std.proofs.Math.Bool.{or-false}
pub use Rattle.std.proofs.lemmas.Bool.{and_parts, true≢false}
pub use Rattle.std.proofs.lemmas.Bool.Decides.{nat_tests}
pub use Rattle.std.proofs.lemmas.Slice.Eq.{bytes_eq-Decides}
pub use Rattle.std.proofs.lemmas.Str.{IsUtf8-from_ascii}
pub use Rattle.std.specs.List.{AllByRecursion, filter_map, range_with_len}
pub use Rattle.std.specs.Prelude.{Contains, IsTrue, None, Option, Some, bytes_eq, codes, filter, slice_get}
pub use Rattle.std.specs.Str.{IsAscii}
pub use denote.RawPtr.{null_ptr}
