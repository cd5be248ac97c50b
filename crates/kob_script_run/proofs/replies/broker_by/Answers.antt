use Rattle.kob_script_run.proofs.Words.{open_state, runs_alike}
use Rattle.kob_script_run.proofs.replies.broker_by.Goals as goal

pub returns-in-Ok : goal.returns-in-Ok
returns-in-Ok c = λ events.
    rw c.in-Ok.ensures.ok ((runs_alike (open_state c.args.settings) events).replies)
