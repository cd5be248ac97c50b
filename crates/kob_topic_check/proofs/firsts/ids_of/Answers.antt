use Rattle.kob_topic_check.proofs.Listed.{id_is_put}
use Rattle.kob_topic_check.proofs.firsts.ids_of.Goals as goal

pub loop-row-preserved : goal.loop-row-preserved
loop-row-preserved c = λ id.
    id_is_put id c.as_u128.result c.args.rows.now c.loop-row.row-index c.row-item.result _ c.loop-row-test.true
    c.row-item.is
    c.as_u128.ensures (rw (c.loop-row.invariant id) at (c.in_ok-insert.ensures.updates.0 id))
