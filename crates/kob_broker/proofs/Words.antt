-- The names that the lemmas cite, passed on from one place.
pub use Rattle.indexmap.specs.IndexMap.{insert_entry}
pub use Rattle.kob_authorizer.proofs.Creating.{added_rises}
pub use Rattle.kob_authorizer.proofs.Entries.{removed_rises}
pub use Rattle.kob_authorizer.proofs.Verdicts.{true_verdict}
pub use Rattle.kob_authorizer.specs.Decide.{Contents, IsRising}
pub use Rattle.kob_authorizer.specs.Creation.{Added, add_one}
pub use Rattle.kob_broker.specs.Batches.{HasRoom, IsBatchOutcome, outcome_by, outcome_told, prepared_for, refusal_by}
pub use Rattle.kob_broker.specs.Records.{header_bytes, record_bytes, offset_before, with_start, fetch_reasons, fetched_at, batch_reasons, judged_at, offset_told, place_reasons, with_batch, BatchOutcome, Unchanged, Prepared, Batch, Idem, Record, AppendFault, Placement, Judgement, Next, code_of, Produce, Offset}
pub use Rattle.kob_broker.specs.Step.{Makes, MakesFor, state_of, Broker, Outcome, after, after_write, body, effect, effect_by, named, partition_in, reasons_against, refusal, RunsAlike, StepsAlike, replies_of, state_after, step, step_by, CreateTopics, DeleteGroups, DeleteRecords, DeleteTopics, Fetch, ListOffsets, OffsetCommit, OffsetFetch}
pub use Rattle.kob_broker.specs.Bindings.{draft_reasons, Draft}
pub use Rattle.kob_broker.specs.Denial.{Denied, Done, Refused, denial_naming, denial_of, describes_cluster, describes_group, describes_topic, first_unmet, is_met, question, verdict, is_granted, Verdict, Check, denial_code, rights, end_at, first_reason}
pub use Rattle.kob_broker.specs.Justice.{HoldsInForce, access_after, changed_access, in_force_at, AgreeOnAccess, EachBlamed, EachGranted, EachJust, IsBlame, IsDenial, IsJust, LeavesUnlessDone, SameDenial, SomeGranted, AreThose, EachLists, Lists, ListsGroups, ListsTopics, StandsIn, SaysNothingSpent, asked_in, asked_of, is_spent, Code}
pub use Rattle.kob_broker.specs.Groups.{groups_shown, offset_commit_reasons}
pub use Rattle.kob_broker.specs.Topics.{counted, metadata_of, metadata_reasons, metadata_request}
pub use Rattle.kob_broker.specs.State.{State, open_state, state_map, Binding, Settings, Event, Reason, Reply, Request}
pub use Rattle.kob_catalog.proofs.Topics.{topics_of_same_log, has_topic_mapped, listed_mapped, partition_count_mapped, partition_of_mapped, with_partition_mapped, without_topic_mapped, has_there, written_is_read}
pub use Rattle.kob_catalog.specs.Kept.{new_topic, catalog_log, empty_log, topics_of, with_log}
pub use Rattle.kob_catalog.specs.Topics.{Topic, listed, listed_where, partition_of, partitions_of, topics_map, with_partition}
pub use Rattle.kob_groups.specs.Groups.{CommitPlace, Commits, Groups, Offsets, commits_of, group_names, offsets_on, place_of, with_commit, without_offsets}
pub use Rattle.kob_names.specs.Same.{same_text}
pub use Rattle.kob_partition.proofs.Keeping.{records_of_push, retaining_carries}
pub use Rattle.kob_partition.specs.Meaning.{IsPlacement, after_batch, batch_judged, judged, unless_repeat, fetch_fault, fetched, offset_limit, Carries, Meaning}
pub use Rattle.kob_partition.specs.Retained.{Plain, history_from, records_of, sent_in, Retained, plain_meaning, retained_meaning, CanAppend, CanCommit, LogKept}
pub use Rattle.kob_producers.specs.Judge.{judge_by, judge_same}
pub use Rattle.kob_producers.specs.declared.sent.Sent.{Sent}
pub use Rattle.kob_rights.specs.Requests.{BodyWithin, OffsetsWithin, partition_named, AddTopic, AdvanceStart, Append, RemoveTopic, Write, write_of}
pub use Rattle.kob_rights.specs.declared.on_topics.Metadata.{Metadata}
pub use Rattle.std.proofs.Common.{All, Bool, IfSome, List, None, Option, Some, [], ap, arith, cond, drop, false, filter, find, get_or, inl, inr, is_some, le-ltb, length, length-append, length-drop, length-take, ltb-false, map, nat_eq, not, option_map, refl, replicate, rules, slice_get, slice_set, subst, suc, sym, take, true, unwrap_or, zero, ℕ, ◌&&◌, ◌++◌, ◌+◌, ◌<◌, ◌↔◌, ◌∙◌, ◌∷◌, ◌≡◌, ◌≤◌}
pub use Rattle.std.proofs.lemmas.Bool.{and_right, cond_both, or_cases, or_from, or_parts}
pub use Rattle.std.proofs.lemmas.Bool.Decides.{nat_tests}
pub use Rattle.std.proofs.lemmas.Fn.{filter_same}
pub use Rattle.std.proofs.lemmas.Grind.{common_steps}
pub use Rattle.std.proofs.lemmas.List.{length-map, map-append, take_more, drop_more}
pub use Rattle.std.proofs.lemmas.List.Elements.{All-cons, All-filter, All-head, All-map, All-nil, All-push, All-replicate, All-set, All-tail, All-weaker}
pub use Rattle.std.proofs.lemmas.List.Folds.{list_any-append}
pub use Rattle.std.proofs.lemmas.Map.Entries.{All-lookup}
pub use Rattle.std.proofs.lemmas.Result.{IfOk-weaker}
pub use Rattle.std.specs.List.{enumerate_from, flat_map, fold, list_any, sum_by}
pub use Rattle.std.specs.Map.{lookup, set_value}
pub use Rattle.std.specs.Prelude.{Err, IfOk, IsTrue, Ok, Result, ◌⊎◌}
