-- The names that the lemmas cite, passed on from one place.
pub use Rattle.circular_buffer.proofs.Places.{slice_get-append_left}
pub use Rattle.indexmap.proofs.SetLemmas.{filter_keep, filter_skip}
pub use Rattle.kob_authorizer.proofs.Entries.{kept_by_filter, of_each, was_kept}
pub use Rattle.kob_inbox.proofs.Ticking.{run_takes_in}
pub use Rattle.kob_inbox.specs.Contents.{Intake, arrivals, intake_of, is_there, with_intake, with_record}
pub use Rattle.kob_inbox.specs.Run.{cursor_of, with_cursor, with_progress, IsDue, after_answer, behind, taken_by}
pub use Rattle.kob_inbox.specs.declared.cursors.Cursor.{Cursor}
pub use Rattle.kob_connections.specs.Calls.{served_in}
pub use Rattle.kob_names.specs.Binding.{Binding}
pub use Rattle.kob_names.specs.declared.batch.Batch.{Batch}
pub use Rattle.kob_names.specs.declared.batch.Idem.{Idem}
pub use Rattle.kob_names.specs.declared.record.Record.{Record}
pub use Rattle.kob_outbox.specs.Contents.{Contents, Event, empty, later_than, without_sent, after_record, next_seq}
pub use Rattle.kob_outbox.specs.declared.change.Change.{Change}
pub use Rattle.kob_outbox.specs.declared.event.OutboxEvent.{OutboxEvent}
pub use Rattle.kob_partition.proofs.Keeping.{records_of_append, records_of_push}
pub use Rattle.kob_partition.specs.Retained.{history_from, sent_in}
pub use Rattle.kob_delivery.specs.Delivered.{IsCopy, IsDelivered, IsPrefixOf, IsRecordOf, IsSent, IsTakenInOrder, IsWaitingOrSent, ReachesInOrder, firsts, from_place, goes_to, ids_of, is_of_aggregate, routed_to, rows_of, rows_of_aggregate, taken_ids, taken_of_aggregate, carried_id, with_new}
pub use Rattle.kob_delivery.specs.View.{ActsAlone, ArePrivate, Commits, Deletes, IsNeverDeleted, IsNoDeletion, IsOwnCommit, IsOwnProduce, IsReserved, IsReservedFor, IsSoleCommitter, IsSoleProducer, NoSuperUser, Produces, Accepts, Does, Gives, IsGiven, IsHistory, IsSameView, Step, View, batches_of, judged_in, opening_view, Reads, read_from, view_after, view_of, with_batch, with_commit, with_producer}
pub use Rattle.kob_delivery.specs.Served.{IsConsumerPart, IsServicePart, served_to}
pub use Rattle.kob_delivery.specs.Types.{AreServed, Arrival, Body, Call, DeleteGroups, DeleteTopics, Dispatching, Entry, Fetch, InitProducerId, IsConsumerRun, OffsetCommit, OffsetFetch, Place, Plain, Produce, Reply, Request, Retained, Served, Settings, Subscription, dispatch_of, history, id_text, open_state, place_at, plain_meaning, records_of, same_place, stored_event, taken_in, taken_of}
pub use Rattle.kob_producers.specs.Judge.{is_same, judge, judge_same, memory_length}
pub use Rattle.kob_producers.specs.Recent.{sent_batch}
pub use Rattle.kob_producers.specs.declared.judge.Judgement.{Judgement}
pub use Rattle.kob_producers.specs.declared.judge.Judgement.TheVariants.{Next, OldEpoch, OutOfOrder, Repeat}
pub use Rattle.kob_producers.specs.declared.sent.Sent.{Sent}
pub use Rattle.kob_rights.specs.Table.{Check, on_group, on_topic, rights}
pub use Rattle.kob_rights.specs.declared.reply.Reply.TheVariants.{Denied, Done, Refused}
pub use Rattle.kob_rights.specs.declared.request.Request.TheVariants.{CreateTopics, DeleteRecords}
pub use Rattle.kob_router.specs.Run.{place_of, after_use, sequence_of, with_sequence_for, Hand, IsDone, IsRecordable, IsRouterRun, IsSending, May, MayCall, Move, State, after, after_acknowledgement, batch_of, calls_of, events_of, producer_after, start}
pub use Rattle.kob_router.specs.Route.{event_id}
pub use Rattle.kob_router.specs.Run.Move.{Called, Recorded, Restarted, Swept, Took}
pub use Rattle.kob_router.specs.declared.dispatch.Dispatch.{Dispatch}
pub use Rattle.kob_router.specs.declared.dispatch.Target.{Target}
pub use Rattle.kob_router.specs.declared.sender.Producer.{Producer}
pub use Rattle.kob_router.specs.declared.sequences.Sequence.{Sequence}
pub use Rattle.kob_shared.specs.Journals.{IsLegal, journaled_replies, opened_by}
pub use Rattle.std.proofs.Common.{All, Bool, List, None, Option, Some, [], ap, append-nil, append_assoc, arith, cond, drop, eqb-true, false, find, get_or, inl, inr, length, length-append, map, max, min, nat_eq, nat_lt, option_map, refl, slice_get, slice_index, subst, suc, sym, take, take-suc, true, true≢false, zero, ℕ, ◌%◌, ◌&&◌, ◌++◌, ◌+◌, ◌-◌, ◌<◌, ◌==◌, ◌||◌, ◌∙◌, ◌∷◌, ◌≡◌, ◌≤◌, ◌⊎◌}
pub use Rattle.std.proofs.lemmas.Bool.{and_from, and_parts, both_ways, cases_Bool, cond-false, eq-eqb, eqb-false, le-ltb, leb-false, lt-ltb, ltb-true}
pub use Rattle.std.proofs.lemmas.Bool.Decides.{nat_tests}
pub use Rattle.std.proofs.lemmas.Cmp.{nat_list_eq_equiv}
pub use Rattle.std.proofs.lemmas.List.{drop-drop, get_or-drop, get_or_append_left, get_or_push, length-drop, length-map, length_push, map-append, map_push, take-append-drop, take_all}
pub use Rattle.std.proofs.lemmas.List.Elements.{All-contains, All-filter, All-from_recursion, Contains-append_left, Contains-append_right, Contains-push, filter-append, filter_map-append, filter_passes, recursion_from_All}
pub use Rattle.std.proofs.lemmas.List.FromFn.{get_or-range_with_len, length-range_with_len}
pub use Rattle.std.proofs.lemmas.List.Folds.{list_any-append}
pub use Rattle.std.proofs.lemmas.List.Sums.{fold-append}
pub use Rattle.std.proofs.lemmas.Option.{get_or_from_slice_get, slice_get-get_or, slice_get_within}
pub use Rattle.std.proofs.lemmas.Simd.{map-map}
pub use Rattle.std.specs.List.{AllByRecursion, IsDistinct, cons_option, enumerate_from, filter_map, fold, list_any, range_with_len}
pub use Rattle.std.specs.Prelude.{Contains, IsTrue, bytes_eq, filter, option_and_then, unwrap_or}
