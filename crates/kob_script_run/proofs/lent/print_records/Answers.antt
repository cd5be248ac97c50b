use Rattle.kob_script_run.proofs.PrintedRecords.{reply_put}
use Rattle.kob_script_run.proofs.lent.print_records.Goals as goal

pub returns : goal.returns
returns c =
    reply_put c.args.number c.args.records.now.first c.args.records.now.records c.args.out.now.items _ _ _ _ _
    c.in_ok-push_number.ensures.text c.in_ok-extend_from_slice.ensures.items
    c.in_ok-extend_from_slice-2.ensures.items c.in_ok-push_records.ensures
    c.in_ok-extend_from_slice-3.ensures.items
