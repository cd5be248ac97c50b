use Rattle.std.proofs.Common.{◌∙◌}
use Rattle.kob_delivery_check.proofs.Earlier.{before_more, history_more, last_more}
use Rattle.kob_delivery_check.proofs.order.earlier_ids.Goals as goal

pub loop-event-preserved : goal.loop-event-preserved
loop-event-preserved c =
    let event = c.event-item.result in
    let last = c.in_ok-before.ensures in
    let invariant = c.loop-event.invariant in
    let before = last.old ∙ invariant.0 c.as_str.result c.as_str-in-loop-event.result in
    rw (history_more (λ event. event.now) c.args.events.now c.loop-event.event-index event c.loop-event-test.true c.event-item.is) (
      λ kind id. last_more kind.now id.now event.now _ _ _ (rw c.as_u128-id.ensures at (rw c.as_str.ensures.value at (rw c.as_str-in-loop-event.ensures.value at (last.updates.0 (kind, id))))) (invariant.0 kind id),
      λ id. before_more id event.now _ _ _ _ (rw c.as_u128-id.ensures at c.in_ok-insert.ensures.updates.0 id) (rw c.as_str.ensures.value at (rw c.as_str-in-loop-event.ensures.value at before)) (invariant.1 id),
    )
