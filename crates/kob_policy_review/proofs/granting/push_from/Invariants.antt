use Rattle.std.proofs.Common.{map, take, ◌++◌, ◌≡◌}
use Rattle.kob_policy_review.specs.Granting.{answer_at}
use Rattle.kob_policy_review.proofs.granting.push_from.Given as goal

abbrev pub invariant-loop-host : goal.invariant-loop-host
invariant-loop-host l = l.out.items ≡ l.initial.out.items
    ++ map (answer_at l.opened l.asking l.operation l.principal) (take l.host-index l.hosts)
