use Rattle.kob_delivery_check.proofs.Placed.{placed}
use Rattle.kob_delivery_check.proofs.sent.place_of.Goals as goal

pub returns : goal.returns
returns c = placed c.place_in.result c.args.id c.args.events.now c.place_in.ensures
