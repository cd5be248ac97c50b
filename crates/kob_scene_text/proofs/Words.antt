-- The names that the lemmas cite, passed on from one place.
pub use Rattle.kob_acl_cli.specs.declared.args.CliArgs.{CliArgs}
pub use Rattle.kob_names.specs.declared.draft.Draft.{Draft}
pub use Rattle.kob_names.specs.declared.settings.Settings.{Settings}
pub use Rattle.kob_rights.specs.declared.event.Event.{Event}
pub use Rattle.kob_scene_text.specs.Workers.{place_of}
pub use Rattle.kob_scene_text.specs.PrintedRequest.{draft_text, record_text}
pub use Rattle.kob_scene_text.specs.PrintedRows.{inbox_item, outbox_item}
pub use Rattle.kob_scene_text.specs.Reading.{as_scripts, step_error, ◌>>>◌}
pub use Rattle.kob_scene_text.specs.Scenes.{HasLines, MayRead, ReadsAs, ReadsLine, ReadsNext, ThenLines, fault_at, Seen, asked, so_far, told, with_head, with_setting, with_words, HasNoWorkerLine, as_line, as_scene, is_request, is_script_line, scene_of}
pub use Rattle.kob_scene_text.specs.Steps.{id_in}
pub use Rattle.kob_scene_text.specs.declared.fault.SceneFaultKind.{SceneFaultKind}
pub use Rattle.kob_scene_text.specs.declared.fault.SceneFaultKind.TheVariants.{BadId}
pub use Rattle.kob_scene_text.specs.declared.fault.StepError.{StepError}
pub use Rattle.kob_scene_text.specs.declared.fault.StepError.TheVariants.{Fault, Memory}
pub use Rattle.kob_scene_text.specs.declared.line.Head.{Head}
pub use Rattle.kob_scene_text.specs.declared.line.Head.TheVariants.{Check, Consumer, Expect, Journal, Law, Of, Request, Service, Setting, Unknown}
pub use Rattle.kob_script.proofs.Each.{each_ends, each_fails, each_keeps, with_front}
pub use Rattle.kob_script.specs.Words.{each, ◌>>=◌, Word, words_of}
pub use Rattle.kob_script.specs.Script.{IsAnswerTo, IsAnswerToLine, lines_in}
pub use Rattle.kob_script.specs.declared.fault.FaultKind.TheVariants.{LateSetting}
pub use Rattle.kob_script.specs.declared.fault.LineError.{LineError}
pub use Rattle.kob_script.specs.declared.script.Script.{Script}
pub use Rattle.std.proofs.Common.{Bool, Err, IsOk, List, None, Ok, OnOk, Option, Result, Some, [], ap, append-nil, append_assoc, arith, codes, drop, false, flat_map, if◌then◌else◌, is_ok, length, map, nat_lt, refl, replicate, rules, subst, suc, sym, take, tests, true, ℕ, ◌++◌, ◌+◌, ◌-◌, ◌==◌, ◌↔◌, ◌∙◌, ◌∷◌, ◌≡◌}
pub use Rattle.std.proofs.lemmas.Bool.{and_parts}
pub use Rattle.std.proofs.lemmas.Bool.Decides.{nat_tests}
pub use Rattle.std.proofs.lemmas.List.{length-map, map-append, replicate_more}
pub use Rattle.std.proofs.lemmas.Result.{err_from_is_err_and}
pub use Rattle.std.specs.List.{list_all}
pub use Rattle.uuid.specs.Text.{parsed}
