use Rattle.kob_delivery_check.proofs.Earlier.{history_more, event_more}
use Rattle.kob_delivery_check.proofs.altered.events_by_id.Goals as goal

pub loop-event-preserved : goal.loop-event-preserved
loop-event-preserved c id =
    let event = c.event-item.result in
    rw (history_more (λ event. event.now) c.args.events.now c.loop-event.event-index event c.loop-event-test.true c.event-item.is) (
    event_more id event _ _ _ (rw c.as_u128.ensures at c.in_ok-insert.ensures.updates.0 id) (c.loop-event.invariant id)
    )
