use Rattle.std.specs.Prelude.{alloc_error}
use Rattle.std.proofs.Common.{ap, sym, ◌∙◌, ◌≡◌}
use Rattle.clap.specs.Words.{app_of}
use Rattle.kob_acl_cli.specs.Lines.{line_fault, texts}
use Rattle.kob_acl_cli.specs.declared.fault.LineFault.TheVariants.{Memory, Usage}
use Rattle.kob_acl_cli.proofs.LineFacts.{found_rows, no_refusals, refused_by, taken_by}
use Rattle.kob_acl_cli.proofs.line.read_line.Goals as goal

pub returns-in_ok-args_of-in-Ok-clause-read : goal.returns-in_ok-args_of-in-Ok-clause-read
returns-in_ok-args_of-in-Ok-clause-read c =
    rw (sym (found_rows (app_of c.in_ok-command.command)
    (texts c.args.words.now) c.in-Ok.matches c.in_ok-command.ensures c.in-Ok.ensures.matches))
    c.in_ok-args_of-in-Ok.ensures

pub returns-in_ok-args_of-in-Ok-clause-taken : goal.returns-in_ok-args_of-in-Ok-clause-taken
returns-in_ok-args_of-in-Ok-clause-taken c =
    no_refusals (app_of c.in_ok-command.command) (texts c.args.words.now) c.in_ok-command.ensures c.in-Ok.ensures.kinds

pub returns-in-Err-clause-refused : goal.returns-in-Err-clause-refused
returns-in-Err-clause-refused c =
    λ taken. c.fault_of.ensures ∙ ap line_fault (c.in-Err.ensures.passes
    (taken_by (app_of c.in_ok-command.command) (texts c.args.words.now) c.in_ok-command.ensures taken))

pub returns-in-Err-clause-usage : goal.returns-in-Err-clause-usage
returns-in-Err-clause-usage c = λ usage.
    let told = sym usage ∙ c.fault_of.ensures in
    refused_by (app_of c.in_ok-command.command)
    (texts c.args.words.now) c.in-Err.error c.in_ok-command.ensures c.in-Err.ensures.kinds
    (λ memory. let is : Usage ≡ Memory alloc_error = told ∙ ap line_fault memory in cc)
