use Rattle.kob_delivery.proofs.Unsharing.{carried}
use Rattle.kob_delivery.proofs.shared_topics.carries_one.Goals as goal

pub returns-in-Some : goal.returns-in-Some
returns-in-Some c =
    carried c.args.message.now c.in-Some.id c.args.rows.now c.event_id.result c.is_one_of.result c.event_id.ensures
    c.in-Some.is c.is_one_of.ensures
