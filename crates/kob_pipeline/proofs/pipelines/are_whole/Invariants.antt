use Rattle.kob_pipeline.proofs.Words.{All, IsWhole, take}
use Rattle.kob_pipeline.proofs.pipelines.are_whole.Given as goal

abbrev pub invariant-loop-one : goal.invariant-loop-one
invariant-loop-one l = All IsWhole (take l.one-index l.done)
