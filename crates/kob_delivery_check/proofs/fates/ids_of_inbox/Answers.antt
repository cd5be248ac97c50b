use Rattle.std.proofs.Common.{map, nat_eq, refl}
use Rattle.std.specs.HashSet.{contains}
use Rattle.kob_delivery_check.specs.Altered.{is_altered}
use Rattle.kob_delivery_check.specs.Logs.{number_of}
use Rattle.kob_delivery_check.proofs.More.{number_in}
use Rattle.kob_delivery_check.proofs.fates.ids_of_inbox.Goals as goal

pub loop-row-preserved-then-is_altered : goal.loop-row-preserved-then-is_altered
loop-row-preserved-then-is_altered c id =
    let events = map (λ event. event.now) c.args.events.now in
    let was = contains nat_eq c.loop-row.set id in
    number_in (λ row. number_of row.id) (is_altered events) c.args.rows.now c.loop-row.row-index c.row-item.result
    (number_of c.row-item.result.id) id c.is_altered.result was was c.loop-row-test.true c.row-item.is refl
    (c.is_altered.ensures events c.in_ok-recorded.ensures) (rw c.if-is_altered.true refl) (c.loop-row.invariant id)

pub loop-row-preserved : goal.loop-row-preserved
loop-row-preserved c id =
    let events = map (λ event. event.now) c.args.events.now in
    number_in (λ row. number_of row.id) (is_altered events) c.args.rows.now c.loop-row.row-index c.row-item.result
    c.as_u128.result id c.is_altered.result (contains nat_eq c.loop-row.set id) (contains nat_eq c.insert.new.self id)
    c.loop-row-test.true c.row-item.is c.as_u128.ensures (c.is_altered.ensures events c.in_ok-recorded.ensures)
    (rw c.if-is_altered.false (c.in_ok-insert.ensures.updates.0 id)) (c.loop-row.invariant id)
