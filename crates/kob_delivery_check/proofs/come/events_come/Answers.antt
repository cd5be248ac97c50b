use Rattle.std.proofs.Common.{rules, ◌∙◌}
use Rattle.kob_delivery_check.specs.Logs.{number_of}
use Rattle.kob_delivery_check.specs.Order.{has_come}
use Rattle.kob_delivery_check.proofs.More.{kept_to}
use Rattle.kob_delivery_check.proofs.come.events_come.Goals as goal

pub loop-event-preserved : goal.loop-event-preserved
loop-event-preserved c =
    kept_to (λ event. has_come c.args.arrivals.now (number_of event.id)) (λ event. event.now) c.args.events.now
    c.loop-event.event-index c.event-item.result c.contains.result c.loop-event.come.items c.push_if.new.come.items
    c.loop-event-test.true c.event-item.is
    (rw c.as_u128.ensures at (c.contains.ensures ∙ c.in_ok-ids.ensures c.as_u128.result)) c.loop-event.invariant (search rules)
