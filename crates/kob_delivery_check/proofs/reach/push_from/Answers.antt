use Rattle.std.proofs.Common.{get_or, None, rules}
use Rattle.kob_delivery_check.specs.Reaches.{stored_at}
use Rattle.kob_delivery_check.proofs.Listed.{item_more}
use Rattle.kob_delivery_check.proofs.reach.push_from.Goals as goal

pub loop-offset-preserved : goal.loop-offset-preserved
loop-offset-preserved c =
    item_more (stored_at c.args.assigned c.args.from) c.args.events.now c.loop-offset.offset
    (get_or c.args.events.now c.loop-offset.offset None) c.args.ahead.now.items c.loop-offset.ahead.items
    c.push_record.new.ahead.items c.loop-offset-test.true (search rules) c.loop-offset.invariant
    (search rules)
