use Rattle.kob_script.proofs.Imports.{err_from_is_err_and, script_so_far}
use Rattle.kob_script.proofs.CheckedLines.{line_fails}
use Rattle.kob_script.proofs.script.check_line.Goals as goal

pub returns-in_err-words : goal.returns-in_err-words
returns-in_err-words c = λ events counts.
    let p = err_from_is_err_and c.from_residual.result c.from_residual.ensures.1 in
    rw (p.1, p.2)
    (line_fails (script_so_far c.args.checking.now events) c.args.line.now c.args.checking.now c.args.answers.now.items
    c.args.answers.now.items _ c.in_err-words.ensures.gives c.in_err-words.ensures.memory)

pub returns-in-Some : goal.returns-in-Some
returns-in-Some c = λ events counts. c.check_cut.ensures c.args.line.now events c.in-Some.ensures.put counts
