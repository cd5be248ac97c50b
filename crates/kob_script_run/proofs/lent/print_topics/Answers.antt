use Rattle.kob_script_run.proofs.PrintedRecords.{topics_put}
use Rattle.kob_script_run.proofs.lent.print_topics.Goals as goal

pub returns : goal.returns
returns g c =
    topics_put c.args.number c.args.topics c.args.out.now.items _ _ _ _ _
    c.in_ok-push_number.ensures.text c.in_ok-extend_from_slice.ensures.items
    c.in_ok-extend_from_slice-2.ensures.items c.in_ok-push_topics.ensures
    c.in_ok-extend_from_slice-3.ensures.items
