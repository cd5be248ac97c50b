-- The names that the lemmas cite, passed on from one place.
pub use Rattle.bstr.proofs.lemmas.LengthLemmas.{length-lines}
pub use Rattle.bstr.proofs.lemmas.LineLemmas.{line_len-bounds, lines-nil, lines-step}
pub use Rattle.bstr.specs.Text.{lines_of, without_terminator}
pub use Rattle.kob_acl_cli.specs.Commands.{IsFirstFault}
pub use Rattle.kob_names.specs.TextRules.{host_fault, principal_fault}
pub use Rattle.kob_script.specs.Checks.{ChecksLine, ChecksNext, fault_at, kept_answer, script_so_far}
pub use Rattle.kob_script.specs.CommandLines.{AclCommand, CliArgs, Command, CommandFault, Event, Request, acl_commands, acl_request, asks_by_acl, command_named, error_of, events_by, faults_in, filter_of, filter_row, draft_of, line_fault, request_of, row, row_fault, row_named, slot_fault, unless_dash, unless_faults}
pub use Rattle.kob_script.specs.Words.{BadLine, BadNumber, Fails, Fault, FaultKind, Finds, GivesSeen, HidesNoFault, IsAmong, seen, LineError, Memory, counted, each, earlier, first_kind, rank, unless_found, ◌>>=◌, is_skipped, named_host, named_principal, number_in, record_of, text_of, Word, cut_at, is_blank, raw_words, word_of, words_of}
pub use Rattle.kob_script.specs.Script.{AreWholeLines, answers_after, is_setting, lines_in_blocks, lines_left, requests_in, requests_left, requests_of, requests_on, lines_ask, rest_of, steps_left, HasNoAclLine, IfRead, IsAnswerTo, IsAnswerToLine, ReadsAs, Script, ScriptError, ThenLines, asks_clap, empty_script, line_words, lines_in, then_lines, with_words}
pub use Rattle.kob_script.specs.declared.script.Checking.{Checking}
pub use Rattle.kob_script.specs.declared.command.Place.{Place}
pub use Rattle.kob_script.specs.declared.command.Place.TheVariants.{One, Texts}
pub use Rattle.memchr.proofs.lemmas.ValueLemmas.{IsFirstByte-value}
pub use Rattle.memchr.specs.Find.{IsFirstByte, is_byte}
pub use Rattle.std.proofs.Common.{Bool, Bor, Err, IsUtf8, List, MatchOption, None, Ok, Option, Result, Some, [], ap, option_copied, append-nil, append_assoc, arith, bytes_eq, codes, cond, drop, drop-drop, drop_of_length-le, eqb-true, false, find, flat_map, get_or, if◌then◌else◌, inl, inr, is_some, length, length-append, length-drop, length-take-le, ltb-false, ltb-true, map, nat_lt, not, ok_or, option_map, refl, rules, slice_index_or, subst, sym, take, take_all, tests, true, ℕ, ◌&&◌, ◌*◌, ◌++◌, ◌+◌, ◌-◌, ◌<◌, ◌==◌, ◌^◌, ◌∙◌, ◌∷◌, ◌≡◌, ◌≤◌}
pub use Rattle.std.proofs.lemmas.Bool.Decides.{nat_tests}
pub use Rattle.std.proofs.lemmas.Grind.{get_or_default_zero}
pub use Rattle.std.proofs.lemmas.List.{drop_more, length-map, length_push, map-append}
pub use Rattle.std.specs.Result.{IsOk}
pub use Rattle.std.proofs.lemmas.List.Sums.{list_all-from_AllPass}
pub use Rattle.std.proofs.lemmas.Result.{err_from_is_err_and}
pub use Rattle.std.proofs.lemmas.Slice.Eq.{bytes_eq-Decides}
pub use Rattle.std.proofs.lemmas.Str.{IsUtf8-from_is_utf8, is_utf8-from_IsUtf8}
pub use Rattle.std.specs.Char.{digit_value, is_ascii_digit}
pub use Rattle.std.specs.List.{concat, list_all}
pub use Rattle.std.specs.Result.{result_and, result_err, result_ok, result_unwrap_or}
pub use Rattle.std.specs.Str.{all_ascii_digits, is_utf8}
pub use Rattle.std.specs.Str.Parse.{digits_value, digits_value_after}
pub use Rattle.std.specs.Vec.Iter.{into_iter_items}
