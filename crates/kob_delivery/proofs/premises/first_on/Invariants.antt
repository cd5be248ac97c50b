use Rattle.kob_delivery.proofs.Words.{AllByRecursion, take}
use Rattle.kob_delivery.proofs.premises.first_on.Given as goal
use Rattle.std.specs.Prelude.{◌≢◌}

abbrev pub invariant-loop-assigned : goal.invariant-loop-assigned
invariant-loop-assigned l = AllByRecursion (λ p. p.topic ≢ l.topic) (take l.assigned l.assignment)
