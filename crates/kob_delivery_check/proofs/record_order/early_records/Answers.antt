use Rattle.std.proofs.Common.{[], map, rules}
use Rattle.kob_delivery_check.specs.Order.{early_within}
use Rattle.kob_delivery_check.proofs.Listed.{item_more}
use Rattle.kob_delivery_check.proofs.record_order.early_records.Goals as goal

pub loop-assigned-preserved : goal.loop-assigned-preserved
loop-assigned-preserved c =
    item_more (early_within c.args.assignment.now (map (λ event. event.now) c.args.events.now)) c.args.reaches.now
    c.loop-assigned.assigned c.index-reaches-assigned.result [] c.loop-assigned.early.items c.push_each.new.early.items
    c.loop-assigned-test.true c.index-reaches-assigned.is c.loop-assigned.invariant (search rules)
