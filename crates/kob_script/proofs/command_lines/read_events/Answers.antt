use Rattle.kob_script.proofs.Imports.{err_from_is_err_and, option_copied}
use Rattle.kob_script.proofs.LineFaults.{asked_fails}
use Rattle.kob_script.proofs.command_lines.read_events.Goals as goal

pub returns-in_err-read_event : goal.returns-in_err-read_event
returns-in_err-read_event c =
    let p = err_from_is_err_and c.from_residual-in_err-read_event.result c.from_residual-in_err-read_event.ensures.1 in
    rw (p.1, p.2)
    (asked_fails (option_copied c.args.answer) c.args.words.now _ _ c.in_ok-count_of.ensures.gives c.in_err-read_event.ensures.asked)
