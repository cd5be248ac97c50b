use Rattle.kob_pipeline.proofs.Words.{All, IsWhole, subst}
use Rattle.kob_pipeline.proofs.Ended.{each_answered, ended}
use Rattle.kob_pipeline.proofs.pipelines.end_of.Goals as goal

pub returns-in-None-clause-ok : goal.returns-in-None-clause-ok
returns-in-None-clause-ok c =
    let ran = c.args.ran in
    let end = c.end_with.ensures in
    ended c.args.opening.now ran.first c.args.workers.now ran.done.items ran.found _ c.requires.sound.legal
    c.in-None.ensures c.requires.first c.requires.each c.receipts-answered.ensures.answered
    (subst (All IsWhole) c.deref.ensures.value (c.are_whole.ensures c.if-not-are_whole.false)) end.broker end.journal
    end.first end.done

pub returns-in-Some-clause-torn : goal.returns-in-Some-clause-torn
returns-in-Some-clause-torn c = (
  each_answered c.args.ran.first c.args.ran.done.items c.receipts-answered.ensures.answered
      (subst (All IsWhole) c.deref.ensures.value (c.are_whole.ensures c.if-not-are_whole.false)),
  c.in-Some.ensures,
)
