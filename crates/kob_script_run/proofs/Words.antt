-- The names that the lemmas cite, passed on from one place.
pub use Rattle.bstr.proofs.lemmas.LineLemmas.{EndsLine, lines-append}
pub use Rattle.kob_broker.proofs.Lifting.{runs_alike}
pub use Rattle.kob_broker.proofs.Steps.{replies_one_more, state_one_more}
pub use Rattle.kob_broker.specs.Step.{state_of, replies_of, state_after, step}
pub use Rattle.kob_broker.specs.State.{State, open_state}
pub use Rattle.kob_partition.specs.Meaning.{Meaning}
pub use Rattle.kob_partition.specs.Retained.{retained_meaning}
pub use Rattle.kob_rights.specs.declared.event.Event.{Event}
pub use Rattle.kob_rights.specs.declared.reply.Reply.{Reply}
pub use Rattle.kob_script.specs.Checks.{checked}
pub use Rattle.kob_script.specs.Printed.{reply_text, stopped_text, text_of_replies}
pub use Rattle.kob_script.specs.Script.{AreWholeLines, lines_in_blocks, lines_in}
pub use Rattle.kob_script.specs.declared.script.Script.{Script}
pub use Rattle.kob_script_run.specs.Output.{unread, unwritten, piece_limit, script_limit, HasOutput, IsEnd, IsOutput, IsWrittenOf, Writes, replies_to, IsTextOfRun, WritesPartOfRun, WritesRun, replies_from, AppendsAllBut, AppendsPart, EndLines, bytes_in}
pub use Rattle.kob_script_run.specs.declared.fault.InputFault.{InputFault}
pub use Rattle.kob_script_run.specs.declared.fault.OutputFault.{OutputFault}
pub use Rattle.kob_script_run.specs.declared.output.Ended.{Ended}
pub use Rattle.kob_script_run.specs.declared.output.Ended.TheVariants.{Clean, Fault, Stopped}
pub use Rattle.std.proofs.Common.{Err, List, None, Ok, OnErr, OnOk, Option, Result, Some, [], add-zero, ap, append-nil, append_assoc, arith, codes, drop, false, get_or, get_or-take, inl, inr, length, length-append, length-drop, length-take-le, refl, rules, slice_index, subst, suc, sym, take, take-append-drop, vec_capacity, vec_len, ℕ, ◌++◌, ◌+◌, ◌-◌, ◌<◌, ◌∙◌, ◌∷◌, ◌≡◌, ◌≤◌, ◌⊎◌}
pub use Rattle.std.proofs.KnownBytes.{Appends-kept, Appends-nil, Appends-trans, Consumes-trans, Consumes-whole}
pub use Rattle.std.proofs.Math.Seq.{take-append-add, take-append_seam}
pub use Rattle.std.proofs.lemmas.Bool.{cases_lt}
pub use Rattle.std.proofs.lemmas.Bool.Decides.{nat_tests}
pub use Rattle.std.proofs.lemmas.List.{drop_more, map-append, take-append-le, take_all, take_rest}
pub use Rattle.std.specs.Fmt.{decimal}
pub use Rattle.std.specs.Io.KnownBytes.{Appends, Consumes, Keeps}
pub use Rattle.std.specs.List.{concat}
pub use Rattle.std.specs.Option.{IfSome}
pub use Rattle.std.specs.Result.{is_err}
