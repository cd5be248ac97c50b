use Rattle.std.proofs.Common.{[], rules}
use Rattle.kob_delivery_check.specs.Reaches.{records_within}
use Rattle.kob_delivery_check.proofs.Listed.{item_more}
use Rattle.kob_delivery_check.proofs.reach.records_ahead.Goals as goal

pub loop-assigned-preserved : goal.loop-assigned-preserved
loop-assigned-preserved c =
    item_more records_within c.args.reaches.now c.loop-assigned.assigned c.index-reaches-assigned.result [] c.loop-assigned.ahead.items
    c.push_from.new.ahead.items c.loop-assigned-test.true c.index-reaches-assigned.is c.loop-assigned.invariant
    (search rules)
