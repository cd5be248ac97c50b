use Rattle.std.proofs.Common.{map, rules}
use Rattle.kob_delivery_check.specs.Fates.{fate_of}
use Rattle.kob_delivery_check.proofs.More.{mapped_to}
use Rattle.kob_delivery_check.proofs.fates.fates_of.Goals as goal

pub loop-event-preserved : goal.loop-event-preserved
loop-event-preserved c =
    let id = c.as_u128.result in
    mapped_to (λ event. fate_of (map (λ event. event.now) c.args.events.now) c.args.taken.now c.args.ahead.now c.args.waiting.now event.id) (λ event. event.now)
    c.args.events.now c.loop-event.event-index c.event-item.result c.fate_by.result c.loop-event.fates.items
    c.push.new.self.items c.loop-event-test.true c.event-item.is
    (rw c.as_u128.ensures at (rw (c.in_ok-taken.ensures id) at (rw (c.in_ok-waiting.ensures id) at c.fate_by.ensures)))
    c.loop-event.invariant (search rules)
