use Rattle.std.proofs.Common.{flat_map, take, ◌++◌, ◌≡◌}
use Rattle.kob_policy_text.specs.Holdings.{behind_comma}
use Rattle.kob_policy_text.proofs.holdings.push_others.Given as goal

abbrev pub invariant-loop-operation : goal.invariant-loop-operation
invariant-loop-operation l =
    l.out.items ≡ l.initial.out.items ++ flat_map behind_comma (take l.operation-index l.operations)
