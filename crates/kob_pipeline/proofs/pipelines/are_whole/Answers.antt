use Rattle.kob_pipeline.proofs.Words.{All, All-more, IsWhole, arith, nat_tests, subst, take_all}
use Rattle.kob_pipeline.proofs.pipelines.are_whole.Goals as goal

pub loop-one-preserved : goal.loop-one-preserved
loop-one-preserved c =
    let one = c.one-item.result in
    All-more IsWhole c.args.done.now c.loop-one.one-index one (omega arith) c.loop-one.invariant
    (subst IsWhole c.one-item.is (grind (arith, nat_tests), c.receipts-answered.ensures.answered))

pub returns : goal.returns
returns c = λ _. subst (All IsWhole) (take_all c.loop-one.one-index c.args.done.now c.loop-one-test.false) c.loop-one.invariant
