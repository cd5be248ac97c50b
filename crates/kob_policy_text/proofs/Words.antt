-- The names that the lemmas cite, passed on from one place.
pub use Rattle.kob_authorizer.specs.Decide.{question_of}
pub use Rattle.kob_policy_text.specs.Answers.{omission_line, seen_text, who_line}
pub use Rattle.kob_policy_text.specs.Review.{answers_text}
pub use Rattle.kob_policy_text.specs.AtHand.{with_principal, with_text}
pub use Rattle.kob_acl_cli.specs.Lines.{texts}
pub use Rattle.kob_policy_text.specs.Cells.{no_cells, read_cells, with_cell_byte}
pub use Rattle.kob_policy_text.specs.Lines.{SaysAt, has_heading, is_heading_line, super_item}
pub use Rattle.kob_policy_text.specs.Options.{held_at, held_options, next_place, rule_items}
pub use Rattle.kob_policy_text.specs.Shell.{no_words, read_on, with_shell_byte}
pub use Rattle.kob_policy_text.specs.declared.options.Place.TheVariants.{Anywhere}
pub use Rattle.kob_policy_text.specs.Outcomes.{MayFail, MayGive}
pub use Rattle.kob_policy_text.specs.Listing.{held_name, trimmed}
pub use Rattle.kob_policy_text.specs.Policy.{FileMakes, IsStopped, Policy, at_file, fault_at, place, with_item, with_items}
pub use Rattle.kob_policy_text.specs.Questions.{Questions, lines_from, with_line}
pub use Rattle.kob_policy_text.specs.declared.item.Item.{Item}
pub use Rattle.kob_policy_text.specs.declared.origin.Origin.{Origin}
pub use Rattle.kob_words.proofs.Choices.{chosen_false, chosen_true, false_from}
pub use Rattle.kob_script.proofs.Each.{each_ends, each_fails, each_fails_map, each_keeps, each_map, with_front}
pub use Rattle.kob_script.specs.Words.{Fails, GivesSeen, each, text_in, text_of, ◌>>=◌}
pub use Rattle.kob_script.specs.Script.{lines_in}
pub use Rattle.kob_script.specs.declared.fault.FaultKind.{FaultKind}
pub use Rattle.kob_script.specs.declared.fault.LineError.{LineError}
pub use Rattle.kob_script.specs.declared.fault.LineError.TheVariants.{Fault, Memory}
pub use Rattle.std.proofs.Common.{Bool, Err, is_none, List, None, Ok, Result, [], ap, append-nil, append_assoc, arith, drop, drop_of_length-le, false, flat_map, get_or, length, map, nat_lt, Option, refl, rules, suc, sym, take, tests, true, ℕ, ◌++◌, ◌+◌, ◌<◌, ◌==◌, ◌∙◌, ◌∷◌, ◌≡◌, ◌≤◌, codes, fold}
pub use Rattle.std.proofs.lemmas.Bool.Decides.{nat_tests}
pub use Rattle.std.proofs.lemmas.Iterator.Consumers.{YieldsList-at, YieldsList-from_filter, map_from_collect}
pub use Rattle.std.proofs.lemmas.Iterator.Splits.{YieldsList-from_slice_split}
pub use Rattle.std.proofs.lemmas.List.{drop_more, map-append, nil_from_length}
pub use Rattle.std.proofs.lemmas.Result.{err_from_is_err_and}
pub use Rattle.std.proofs.lemmas.Str.{IsUtf8-from_is_utf8, is_utf8-from_IsUtf8}
pub use Rattle.std.specs.Borrow.{Bor}
pub use Rattle.std.specs.List.{list_any}
pub use Rattle.std.specs.Str.{is_utf8}
pub use Rattle.std.specs.Vec.Iter.{into_iter_items, into_iter_len}
