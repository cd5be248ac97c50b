use Rattle.std.proofs.Common.{[], rules}
use Rattle.kob_delivery_check.specs.Repeats.{records_once}
use Rattle.kob_delivery_check.proofs.Listed.{item_more}
use Rattle.kob_delivery_check.proofs.repeats.records_of.Goals as goal

pub loop-assigned-preserved : goal.loop-assigned-preserved
loop-assigned-preserved c =
    item_more (records_once c.args.assignment.now) c.args.reaches.now c.loop-assigned.assigned
    c.index-reaches-assigned.result [] c.loop-assigned.records.items c.push_once.new.records.items
    c.loop-assigned-test.true c.index-reaches-assigned.is c.loop-assigned.invariant (search rules)
