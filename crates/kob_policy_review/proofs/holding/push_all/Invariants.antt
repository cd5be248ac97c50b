use Rattle.std.proofs.Common.{take, ◌++◌, ◌≡◌}
use Rattle.std.specs.List.{flat_map}
use Rattle.kob_policy_review.specs.Holding.{holdings_on}
use Rattle.kob_policy_review.proofs.holding.push_all.Given as goal

abbrev pub invariant-loop-target : goal.invariant-loop-target
invariant-loop-target l = l.out.items ≡ l.initial.out.items
    ++ flat_map (holdings_on l.finder l.principal l.host) (take l.target-index l.targets)
