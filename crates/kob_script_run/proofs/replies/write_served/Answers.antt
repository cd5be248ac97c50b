use Rattle.kob_script_run.proofs.Words.{checked, refl, replies_from, state_of}
use Rattle.kob_script_run.proofs.Outputs.{run_is_output, part_is_of_output}
use Rattle.kob_script_run.proofs.replies.write_served.Goals as goal

pub returns-in-Ok-written : goal.returns-in-Ok-written
returns-in-Ok-written g c =
    run_is_output (checked c.args.script) (replies_from (state_of c.in-Ok.broker)) c.args.script.requests refl
    c.in-Ok.ensures c.in-Ok-written.ended _ _ c.in-Ok-written.ensures.output

pub returns-in-Err-written : goal.returns-in-Err-written
returns-in-Err-written g c =
    part_is_of_output (checked c.args.script) (replies_from (state_of c.in-Ok.broker)) c.args.script.requests refl
    c.in-Ok.ensures _ _ c.in-Err-written.ensures.part
