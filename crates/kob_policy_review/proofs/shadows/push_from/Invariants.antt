use Rattle.std.proofs.Common.{take, ◌++◌, ◌≡◌}
use Rattle.std.specs.List.{flat_map}
use Rattle.kob_policy_review.specs.Shadows.{bearing_to}
use Rattle.kob_policy_review.specs.Classes.{operations}
use Rattle.kob_policy_review.proofs.shadows.push_from.Given as goal

abbrev pub invariant-loop-operation : goal.invariant-loop-operation
invariant-loop-operation l = l.out.items ≡ l.initial.out.items
    ++ flat_map (bearing_to l.beaten l.asking l.host) (take l.operation-index operations)
