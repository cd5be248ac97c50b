use Rattle.std.proofs.Common.{take, ◌++◌, ◌≡◌}
use Rattle.std.specs.List.{flat_map}
use Rattle.kob_policy_review.specs.Difference.{changes_to}
use Rattle.kob_policy_review.specs.Classes.{operations}
use Rattle.kob_policy_review.proofs.difference.push_operations.Given as goal

abbrev pub invariant-loop-operation : goal.invariant-loop-operation
invariant-loop-operation l = l.out.items ≡ l.initial.out.items
    ++ flat_map (changes_to l.asked l.others l.target l.principal l.host) (take l.operation-index operations)
