use Rattle.std.proofs.Common.{◌∙◌}
use Rattle.kob_topic_check.proofs.Listed.{record_more, seen_more}
use Rattle.kob_topic_check.proofs.findings.push_records.Goals as goal

pub loop-record-preserved : goal.loop-record-preserved
loop-record-preserved c =
    let records = c.args.records.now in
    let k = c.loop-record.record-index in
    let r = c.record-item.result in
    let id = c.as_u128-id.result in record {
      seen = λ other. seen_more other id records k r _ c.loop-record-test.true c.record-item.is c.as_u128-id.ensures
          (rw (c.loop-record.invariant.seen other) at (c.in_ok-earlier.ensures.updates.0 other));
      text = record_more c.args.rows.now records k r _ _ _ c.contains-known.result c.in_ok-earlier.earlier
          c.loop-record-test.true
          c.record-item.is (rw c.as_u128-id.ensures at (c.contains-known.ensures ∙ c.in_ok-ids.ensures id))
          (rw c.as_u128-id.ensures at (c.in_ok-earlier.ensures.old ∙ c.loop-record.invariant.seen id))
          c.in_ok-push_event.ensures c.loop-record.invariant.text;
    }
