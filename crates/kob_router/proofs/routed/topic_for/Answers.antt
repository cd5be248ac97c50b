use Rattle.kob_router.proofs.Words.{arith, common_steps, stored_row, ◌∙◌, ◌≡◌}
use Rattle.kob_router.specs.Route.{routed_value, topic_of}
use Rattle.kob_router.proofs.routed.topic_for.Goals as goal
use Rattle.kob_router.proofs.routed.topic_for.Goals.{in-AggregateType, in-AggregateId}

pub returns : goal.returns
returns c =
    let value : c.match-routing.value.now ≡ routed_value c.args.routing.now.by (stored_row c.args.row.now) =
    elim c.match-routing.branch [
      | in-AggregateType w ↦ grind (arith, common_steps)
      | in-AggregateId w ↦ grind (arith, common_steps)
    ] in
    let text : c.deref.result.now ≡ topic_of c.args.routing.now (stored_row c.args.row.now) =
    rw (
      c.as_bytes-template.ensures.value,
      c.as_str.ensures,
      c.as_bytes.ensures.value,
      value,
    ) at
    (c.deref.ensures.value ∙ c.in_ok-text.ensures) in
    rw text at c.topic_named.ensures
