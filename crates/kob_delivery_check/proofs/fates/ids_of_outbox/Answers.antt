use Rattle.kob_delivery_check.specs.Logs.{number_of}
use Rattle.kob_delivery_check.proofs.More.{number_to}
use Rattle.kob_delivery_check.proofs.fates.ids_of_outbox.Goals as goal

pub loop-row-preserved : goal.loop-row-preserved
loop-row-preserved c id =
    number_to (λ row. number_of row.event.id) c.args.rows.now c.loop-row.row-index c.row-item.result c.as_u128.result id _ _
    c.loop-row-test.true c.row-item.is c.as_u128.ensures (c.in_ok-insert.ensures.updates.0 id) (c.loop-row.invariant id)
