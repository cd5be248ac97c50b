use Rattle.kob_pipeline.proofs.Words.{All, take, ◌≤◌}
use Rattle.kob_pipeline.proofs.plan.Plan.is_runnable.Given as goal

abbrev pub invariant-loop-service : goal.invariant-loop-service
invariant-loop-service l =
    All (λ s. (1 ≤ s.target.partitions) × (s.target.partitions ≤ 1000)) (take l.service-index l.self.services.items)
