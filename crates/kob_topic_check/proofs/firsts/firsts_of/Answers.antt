use Rattle.std.proofs.Common.{ap, is_some, nat_eq, sym, ◌∙◌}
use Rattle.std.specs.HashMap.{get}
use Rattle.kob_topic_check.proofs.Listed.{first_is_kept, first_is_put}
use Rattle.kob_topic_check.proofs.firsts.firsts_of.Goals.{then-not-contains_key+in_ok-insert, else-not-contains_key}
use Rattle.kob_topic_check.proofs.firsts.firsts_of.Goals as goal

pub loop-record-preserved : goal.loop-record-preserved
loop-record-preserved c =
    let id = c.as_u128-id.result in
    let had = ap is_some (sym (c.loop-record.invariant id)) ∙ sym c.contains_key.ensures in
    elim c.if-not-contains_key.branch [
      | then-not-contains_key+in_ok-insert w ↦ λ other.
          first_is_put other id c.args.records.now c.loop-record.record-index c.record-item.result _
          c.loop-record-test.true c.record-item.is
          c.as_u128-id.ensures (had ∙ w.if-not-contains_key.true)
          (ap (λ m. get nat_eq m other) w.firsts-is
          ∙ (rw (c.loop-record.invariant other) at (w.in_ok-insert.ensures.updates.0 other)))
      | else-not-contains_key w ↦ λ other.
          ap (λ m. get nat_eq m other) w.firsts-is ∙ c.loop-record.invariant other
          ∙ first_is_kept other id c.args.records.now c.loop-record.record-index c.record-item.result
          c.loop-record-test.true c.record-item.is
          c.as_u128-id.ensures (had ∙ w.if-not-contains_key.false)
    ]
