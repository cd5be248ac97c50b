use Rattle.std.proofs.Common.{arith}
use Rattle.kob_policy_text.proofs.Growing.{numbered_all, numbered_more}
use Rattle.kob_policy_text.specs.Review.{answer_line}
use Rattle.kob_policy_text.proofs.answer.print_answers.Goals as goal

pub loop-query-preserved : goal.loop-query-preserved
loop-query-preserved c = (
  numbered_more (answer_line c.args.judge.now c.args.topics.now) c.loop-query.number c.args.queries.now
      c.loop-query.query-index _ _ _ _ _ c.loop-query.invariant.0 (omega arith) c.query-item.is
      c.in_ok-push_answer_line.ensures,
  omega (arith, c.loop-query.invariant.1),
)

pub returns : goal.returns
returns c =
    numbered_all (answer_line c.args.judge.now c.args.topics.now) c.loop-query.number c.args.queries.now
    c.loop-query.query-index _ _ c.loop-query.invariant.0 (omega arith)
