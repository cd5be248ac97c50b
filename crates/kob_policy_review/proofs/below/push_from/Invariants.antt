use Rattle.std.proofs.Common.{map, take, ◌++◌, ◌≡◌}
use Rattle.kob_policy_review.specs.Sharing.{reach_near}
use Rattle.kob_policy_review.proofs.below.push_from.Given as goal

abbrev pub invariant-loop-host : goal.invariant-loop-host
invariant-loop-host l = l.out.items ≡ l.initial.out.items
    ++ map (reach_near l.names l.asking l.operation l.principal) (take l.host-index l.hosts)
