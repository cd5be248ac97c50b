use Rattle.std.proofs.Common.{map, take, ◌++◌, ◌≡◌}
use Rattle.kob_policy_review.specs.Holding.{holding_from}
use Rattle.kob_policy_review.proofs.holding.push_from.Given as goal

abbrev pub invariant-loop-host : goal.invariant-loop-host
invariant-loop-host l = l.out.items ≡ l.initial.out.items
    ++ map (holding_from l.target l.asking) (take l.host-index l.hosts)
