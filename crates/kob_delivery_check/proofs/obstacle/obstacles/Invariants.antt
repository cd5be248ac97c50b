use Rattle.std.proofs.Common.{take, ◌≡◌}
use Rattle.std.specs.List.{enumerate_from, flat_map}
use Rattle.kob_delivery_check.specs.Causes.{obstacle_at}
use Rattle.kob_delivery_check.specs.Journaled.{log_by}
use Rattle.kob_delivery_check.proofs.obstacle.obstacles.Given as goal

abbrev pub invariant-loop-at : goal.invariant-loop-at
invariant-loop-at l =
    (l.log ≡ log_by l.group l.place (take l.at l.journal))
    × (l.found.items ≡ flat_map (λ x. obstacle_at l.group l.place l.offset l.journal x) (enumerate_from 0 (take l.at l.journal)))
