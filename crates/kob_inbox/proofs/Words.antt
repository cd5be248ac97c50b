-- The names that the proofs cite, passed on from one place.
pub use Rattle.kob_inbox.specs.Run.{first_partitions, cursor_of, standing, with_cursor, with_progress, IsConsumerRun, IsDue, Move, after, after_answer, after_done, behind, due, taken_of}
pub use Rattle.kob_inbox.specs.Contents.{Contents, Intake, IsOnce, Arrival, answer_to, arrivals, intake_of, is_there, taken_in, with_intake, with_record, arrival_from, placed_intake, fault_of}
pub use Rattle.kob_inbox.specs.Database.{HasLast, IsInbox, contents, Holds, IsReadable, IsShown, contents_in, inbox_tree, key_in, key_value, placed_row, shown_intake, inbox, inbox_schema, inbox_table}
pub use Rattle.kob_inbox.specs.Run.Move.{Called, Restarted}
pub use Rattle.kob_inbox.specs.Tick.{Hears, Point, Ticks, state_of}
pub use Rattle.kob_inbox.specs.declared.cursors.Cursor.{Cursor}
pub use Rattle.kob_inbox.specs.declared.cursors.Standing.{Standing}
pub use Rattle.kob_inbox.specs.declared.fault.InboxFault.{InboxFault}
pub use Rattle.kob_inbox.specs.declared.fault.InboxFault.TheVariants.{Store}
pub use Rattle.kob_inbox.specs.declared.fetcher.Subscription.{Subscription}
pub use Rattle.kob_inbox.specs.declared.inbox.TakeIn.TheVariants.{Seen, Taken}
pub use Rattle.kob_inbox.specs.declared.tick.Tick.{Tick}
pub use Rattle.kob_inbox.specs.declared.tick.Tick.TheVariants.{Committed, Repeat, Stopped}
pub use Rattle.kob_names.specs.declared.record.Record.{Record}
pub use Rattle.kob_outbox.proofs.statements.Steps.{IsCreation, creates, opened, IsAlone, cast_int, cast_null, uncounted, IsWriting}
pub use Rattle.kob_outbox.proofs.statements.Plain.{IsMemory, IsWhole, NeverFails, execute_stays, rests}
pub use Rattle.kob_outbox.proofs.statements.Ignoring.{Ignored, IsSuited, ReferToNone, all_fine, ignores, stopped_by_memory, suits_by}
pub use Rattle.kob_outbox.proofs.statements.Values.{rising, rows_back, alone_test, equal_texts, not_true, number_below, unequal_numbers}
pub use Rattle.kob_outbox.proofs.statements.Selecting.{all_stay, in_order, rises, IsSelect, Scan, by_key, no_limit, over, queried, query_of}
pub use Rattle.kob_outbox.proofs.statements.Words.{Blob, Chosen, Enforced, Error, Executes, Ignore, InsertOr, Int, IsAnswer, Null, Output, Row, State, Term, Text, Trees, Values, accepts_terms, all-append, all_weaker, ascending-append, bound_value, cast_row, col, column, conflicts, lit, map-map, map_back, memory_is_clean, none_from_any, or_null, overlay, with_rowid}
pub use Rattle.kob_outbox.specs.Database.{IsBlank, database, no_schema}
pub use Rattle.kob_outbox.specs.Contents.{id_text}
pub use Rattle.kob_outbox.specs.Layout.{blob_in, text_in, number_in}
pub use Rattle.kob_rights.specs.declared.reply.Body.{Body}
pub use Rattle.kob_rights.specs.declared.reply.Reply.{Reply}
pub use Rattle.kob_rights.specs.declared.reply.Reply.TheVariants.{Denied, Done, Refused}
pub use Rattle.kob_rights.specs.declared.request.Request.{Request}
pub use Rattle.kob_rights.specs.declared.request.Request.TheVariants.{Fetch, OffsetCommit}
pub use Rattle.kob_router.specs.Route.{event_id}
pub use Rattle.kob_router.specs.Line.{Adds}
pub use Rattle.kob_router.specs.Run.{same_place}
pub use Rattle.kob_router.specs.declared.line.Call.{Call}
pub use Rattle.kob_router.specs.declared.line.Delivery.TheVariants.{Lost}
pub use Rattle.kob_router.specs.declared.place.Place.{Place}
pub use Rattle.std.proofs.Common.{Bool, Err, IfErr, IfNone, IfOk, IfSome, IsErrAnd, IsErrOf, IsSome, IsTrue, List, None, Ok, OnErr, OnOk, Option, Result, Some, [], ap, append-nil, arith, bytes_eq, codes, drop, false, get_or, if◌then◌else◌, inl, inr, length, length-append, map, pos, refl, rules, set, slice_get, subst, suc, sym, take, true, ℕ, ◌++◌, ◌+◌, ◌<◌, ◌^◌, ◌∙◌, ◌∷◌, ◌≡◌, ◌≢◌, ◌≤◌}
pub use Rattle.std.proofs.lemmas.Bool.{and_parts, cases_Bool, cond-false, cond-true, eqb-true}
pub use Rattle.std.proofs.lemmas.Bool.Decides.{nat_tests}
pub use Rattle.std.proofs.lemmas.Grind.{common_steps}
pub use Rattle.std.proofs.lemmas.List.{drop_more, set_split, take_more}
pub use Rattle.std.proofs.lemmas.Slice.Eq.{bytes_eq-Decides}
pub use Rattle.std.specs.Borrow.{Bor}
pub use Rattle.std.specs.List.{AllByRecursion, enumerate_from}
pub use Rattle.std.specs.Option.{option_copied}
