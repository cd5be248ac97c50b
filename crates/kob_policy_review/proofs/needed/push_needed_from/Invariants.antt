use Rattle.std.proofs.Common.{take, ◌++◌, ◌≡◌}
use Rattle.std.specs.List.{flat_map}
use Rattle.kob_policy_review.specs.Classes.{operations}
use Rattle.kob_policy_review.specs.Needed.{needed_to}
use Rattle.kob_policy_review.proofs.needed.push_needed_from.Given as goal

abbrev pub invariant-loop-operation : goal.invariant-loop-operation
invariant-loop-operation l =
    l.out.items ≡ l.initial.out.items
    ++ flat_map (needed_to l.alone l.asking l.host) (take l.operation-index operations)
