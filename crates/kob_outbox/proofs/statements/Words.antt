-- The words of SQL, of its tables and of lists that the proofs cite, passed on from one place.
pub use Rattle.kob_outbox.specs.Database.{IsAtRest, IsBlank, IsChanging, IsService, KeepsLast, Spends, contents, contents_of, database, business, business_table, mark, mark_table, no_schema, one_table, outbox, outbox_table, service_schema, spent, spent_table, three_tables, two_tables}
pub use Rattle.kob_outbox.specs.Contents.{Contents, Event, IsRising, Key, States, empty, key_cmp, id_text, key_of, stored_event, stored_row, first_after, later_than, state_at, up_to, without_sent, IsNext, after_record, is_recorded, with_event, with_id, with_state}
pub use Rattle.kob_outbox.specs.Faults.{fault_of}
pub use Rattle.kob_outbox.specs.Layout.{AreBusiness, Business, Holds, IsReadable, IsRisingFrom, IsShown, blob_in, business_tree, contents_in, entry_of, event_row, has_key, mark_row, mark_tree, outbox_tree, placed_row, shown_event, shown_state, spent_row, spent_rows, spent_tree, text_in, number_in}
pub use Rattle.kob_outbox.specs.declared.change.Change.{Change}
pub use Rattle.kob_outbox.specs.declared.event.OutboxEvent.{OutboxEvent}
pub use Rattle.kob_outbox.specs.declared.fault.OutboxFault.{OutboxFault}
pub use Rattle.memchr.specs.Find.{IsFirstByte, Nowhere, Passes, is_byte}
pub use Rattle.sqlite.proofs.Callers.{IsPlain, command_of, memory_is_clean, one_permutation, one_step, reads_as, runs_as, statement_of}
pub use Rattle.sqlite.proofs.InsideLemmas.{fails_whole}
pub use Rattle.sqlite.specs.Cast.{cast, cast_row}
pub use Rattle.sqlite.specs.Change.{created, next_tree}
pub use Rattle.sqlite.specs.Collation.TheVariants.{Binary}
pub use Rattle.sqlite.specs.Command.{Command}
pub use Rattle.sqlite.specs.Command.TheVariants.{CreateTable, Delete, DropTable, Insert, InsertOr, Select, Update}
pub use Rattle.sqlite.specs.Compile.{table_defined_by}
pub use Rattle.sqlite.specs.Does.{Concludes, Does, OnRows, OnTable, Tally, WritesRows, lacks_sequence}
pub use Rattle.sqlite.specs.Effect.{Answers, Database, IsSource, is_query, value_rows}
pub use Rattle.sqlite.specs.Held.{Held}
pub use Rattle.sqlite.specs.Kind.TheVariants.{Integer}
pub use Rattle.sqlite.specs.Listing.{reads_listing}
unfoldable pub use Rattle.sqlite.specs.Listing.{understood}
pub use Rattle.sqlite.specs.Order.{Row}
pub use Rattle.sqlite.specs.Program.{overlay}
pub use Rattle.sqlite.specs.Query.{IsAnswer, Output, Query, end, inner, output, output_cmp, page}
pub use Rattle.sqlite.specs.Reading.{IsReadError}
pub use Rattle.sqlite.specs.Rows.{Clears, Counter, Counts, Deletes, Edited, Gives, Inserts, InsertsOr, Judged, Meets, Outcome, Puts, Task, Then, TriesEach, Updates, Upserts, Written, count_of, last_id, mended, nothing, shown}
pub use Rattle.sqlite.specs.Schema.{Schema}
pub use Rattle.sqlite.specs.Source.TheVariants.{Values}
pub use Rattle.sqlite.specs.State.{EndsScope, Escapes, Executes, ExecutesInside, Fails, FailsToQuery, HasCleanDisk, IsMisplaced, IsNoStatement, IsRolledBack, IsUnchanged, Runs, Shown, Shows, State, Writes, is_pragma, mode_of, shows_rows, text_of}
pub use Rattle.sqlite.specs.Steps.{FailsToCommit}
pub use Rattle.sqlite.specs.Table.{Table}
pub use Rattle.sqlite.specs.Term.{Term, col, lit, op2}
pub use Rattle.sqlite.specs.Tree.{IsAscending, Trees, has_rowid, put_row, rowid, without_rowid}
pub use Rattle.sqlite.specs.Values.{bound_value, or_null}
pub use Rattle.sqlite.specs.declared.error.Error.{Error}
pub use Rattle.sqlite.specs.declared.error.Error.TheVariants.{SqliteFailure}
pub use Rattle.sqlite.specs.declared.error.ErrorCode.TheVariants.{OutOfMemory}
pub use Rattle.sqlite.specs.declared.run.Mode.{Mode}
pub use Rattle.sqlite.specs.declared.types.Value.{Value}
pub use Rattle.sqlite.specs.declared.types.Value.TheVariants.{Blob, Int, Null, Text}
pub use Rattle.sqlite_catalog.specs.Change.{KeepsRows}
pub use Rattle.sqlite_keyed.proofs.ListLemmas.{all_weaker, any_from_none, ascending-map, ascending_weaker, filter-filter, filter_none, map_back, none_from_any}
pub use Rattle.sqlite_keyed.proofs.SortLemmas.{sorted_unique}
pub use Rattle.sqlite_resolve.specs.declared.compiled.Compiled.{Compiled}
pub use Rattle.sqlite_resolve.specs.declared.error.CompileError.{CompileError}
pub use Rattle.sqlite_rules.proofs.ListLemmas.{all_from, all_has, has_filtered, has_kept, some_from, some_has}
pub use Rattle.sqlite_rules.proofs.ProbeLemmas.{has_mapped, mapped_has}
pub use Rattle.sqlite_rules.specs.Action.{works}
pub use Rattle.sqlite_rules.specs.Calls.{ids_of}
pub use Rattle.sqlite_rules.specs.Edit.{Applies, Edit, edit_of, edited, id_in, next_rowid, taken_by, with_rowid, without_all}
pub use Rattle.sqlite_rules.specs.Keys.{AreConflicts, conflicts}
pub use Rattle.sqlite_rules.specs.Lists.{Has}
pub use Rattle.sqlite_rules.specs.Steps.{IsJudged}
pub use Rattle.sqlite_rules.specs.declared.error.Refusal.{Refusal}
pub use Rattle.sqlite_rules.specs.declared.error.Rowids.TheVariants.{Chosen, Given}
pub use Rattle.sqlite_schema.specs.Rules.{Refers, equal}
pub use Rattle.sqlite_schema.specs.declared.command.Conflict.{Conflict}
pub use Rattle.sqlite_schema.specs.declared.command.Conflict.TheVariants.{Abort, Ignore}
pub use Rattle.sqlite_schema.specs.declared.command.Source.{Source}
pub use Rattle.sqlite_schema.specs.declared.command.Upsert.{Upsert}
pub use Rattle.sqlite_schema.specs.declared.program.Program.{Program}
pub use Rattle.sqlite_schema.specs.declared.schema.Among.{Among}
pub use Rattle.sqlite_schema.specs.declared.schema.Keys.{Keys}
pub use Rattle.sqlite_schema.specs.declared.schema.Keys.TheVariants.{Enforced}
pub use Rattle.sqlite_sql.proofs.QueryLemmas.{output_cmp_total}
pub use Rattle.sqlite_sql.specs.Ops.{fits_i64, from_truth, is_true}
pub use Rattle.sqlite_sql.specs.Program.{ProgramOverflows}
pub use Rattle.sqlite_sql.specs.Term.{Env, holds}
pub use Rattle.sqlite_sql.specs.declared.ops.BinaryOp.TheVariants.{Compare}
pub use Rattle.sqlite_sql.specs.declared.ops.CompareOp.TheVariants.{Eq, Gt, Le}
pub use Rattle.sqlite_trees.proofs.ListLemmas.{all-append, all-filter, all-get_or, all_from_map, ascending-append, ascending-filter, filter-map, filter_same, map-map}
pub use Rattle.sqlite_trees.specs.declared.memory.MemStore.{MemStore}
unfoldable pub use Rattle.sqlite_tied.specs.Compute.{everything}
pub use Rattle.sqlite_typing.specs.Types.{accepts_program, accepts_terms}
pub use Rattle.sqlite_value.proofs.OrderLemmas.{value_cmp-Int, value_cmp-Text}
unfoldable pub use Rattle.sqlite_value.specs.Keys.{first_key}
pub use Rattle.sqlite_value.specs.Order.{column, value_cmp}
pub use Rattle.std.proofs.Common.{Bool, Equal, Err, Global, Greater, IfErr, IfOk, IsErrAnd, IsPermutation, IsTrue, IsUtf8, Less, List, None, Ok, OnErr, OnOk, Option, Ordering, Result, Some, Vec, add-one, ap, append-nil, arith, bytes_eq, codes, cond, false, filter, flat_map, if◌then◌else◌, inl, inr, is_eq, is_gt, is_le, length, length-append, map, min, nat_cmp, nat_lt, negsuc, not, pos, refl, rules, slice_get, slice_index_or, string_bytes, subst, suc, sym, take, true, zero, [], ℕ, ℤ, ◌&&◌, ◌++◌, ◌+ℤ◌, ◌+◌, ◌/◌, ◌<◌, ◌==◌, ◌^◌, ◌||◌, ◌∙◌, ◌∷◌, ◌≡◌, ◌≢◌, ◌≤◌, ◌⊎◌}
pub use Rattle.std.proofs.Math.Bool.{and-true, not-not}
pub use Rattle.std.proofs.lemmas.Bool.{and_parts, cases_Bool, cond-true, false_from_ne_true, or_from}
pub use Rattle.std.proofs.lemmas.Bool.Decides.{nat_tests}
pub use Rattle.std.proofs.lemmas.Grind.{common_steps}
pub use Rattle.std.proofs.lemmas.List.{length-map, length-take, map-append, take-map, take_all, take_more}
pub use Rattle.std.proofs.lemmas.List.Folds.{list_any_at}
pub use Rattle.std.proofs.lemmas.List.Sorted.{IsPermutation-map, length_permutation, list_any-IsPermutation}
pub use Rattle.std.proofs.lemmas.Map.Text.{is_eq-slice_cmp}
pub use Rattle.std.proofs.lemmas.Result.{IfErr-weaker, IfOk-weaker}
pub use Rattle.std.proofs.lemmas.Slice.Eq.{bytes_eq-Decides}
pub use Rattle.std.proofs.lemmas.Str.{IsUtf8-string_bytes}
pub use Rattle.std.specs.Cmp.{IsTotalOrder, both_ways, then_total}
pub use Rattle.std.specs.Cmp.Lexicographic.{on_texts}
pub use Rattle.std.specs.FinMap.{IsAntisymmetric, find, from_entries, get, get-from_entries, get-insert, insert, same_map}
pub use Rattle.std.specs.List.{AllByRecursion, enumerate_from, fold, list_all, list_any}
pub use Rattle.std.specs.Option.{is_none, option_or}
pub use Rattle.std.specs.Ordering.{eq_by_cmp}
pub use Rattle.uuid.specs.Text.{parsed}
