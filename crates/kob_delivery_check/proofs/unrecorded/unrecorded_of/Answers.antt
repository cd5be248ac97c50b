use Rattle.std.proofs.Common.{map, rules}
use Rattle.kob_delivery_check.specs.Unrecorded.{has_new_id}
use Rattle.kob_delivery_check.proofs.More.{kept_to}
use Rattle.kob_delivery_check.proofs.unrecorded.unrecorded_of.Goals as goal

pub loop-event-preserved : goal.loop-event-preserved
loop-event-preserved c =
    kept_to (λ event. has_new_id (map (λ event. event.now) c.args.recorded.now) event) (λ event. event.now)
    c.args.unwritten.now c.loop-event.event-index c.event-item.result c.has_new_id.result c.loop-event.found.items
    c.push_if.new.come.items c.loop-event-test.true c.event-item.is c.has_new_id.ensures c.loop-event.invariant
    (search rules)
