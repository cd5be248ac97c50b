use Rattle.kob_pipeline.proofs.Words.{Err, ap, length, subst, sym, ◌≤◌}
use Rattle.kob_pipeline.proofs.Ended.{few_open}
use Rattle.kob_pipeline.proofs.pipelines.opened.Goals as goal

pub unreachable-requires : goal.unreachable-requires
unreachable-requires c =
    few_open c.in_ok-copy.field-0.opening (subst (λ s. length s.opening ≤ 100000) (sym c.in_ok-copy.ensures) c.requires)
    (c.in-Err-TooMany.ensures.many (ap Err c.in-Err-TooMany.field-0-is))
