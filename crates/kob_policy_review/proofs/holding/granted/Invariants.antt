use Rattle.std.proofs.Common.{false, take, ◌≡◌}
use Rattle.std.specs.List.{filter}
use Rattle.kob_policy_review.specs.Classes.{operations}
use Rattle.kob_policy_review.specs.Difference.{yes_to}
use Rattle.kob_policy_review.proofs.holding.granted.Given as goal

abbrev pub invariant-loop-operation : goal.invariant-loop-operation
invariant-loop-operation l =
    l.made.items ≡ filter (yes_to false l.asking l.host) (take l.operation-index operations)
