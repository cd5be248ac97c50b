use Rattle.std.proofs.Common.{rules}
use Rattle.kob_delivery_check.specs.Unrecorded.{unrecorded_line}
use Rattle.kob_delivery_check.proofs.More.{mapped_parts_to}
use Rattle.kob_delivery_check.proofs.unrecorded.push_unrecorded.Goals as goal

pub loop-event-preserved : goal.loop-event-preserved
loop-event-preserved c =
    mapped_parts_to unrecorded_line (λ event. event.now) c.args.events.now c.loop-event.event-index c.event-item.result
    c.args.out.now.items c.loop-event.out.items c.push_line.new.out.items c.loop-event-test.true c.event-item.is
    c.loop-event.invariant (search rules)
