use Rattle.std.proofs.Common.{take, ◌++◌, ◌≡◌}
use Rattle.std.specs.List.{flat_map}
use Rattle.kob_policy_review.specs.Difference.{changes_from}
use Rattle.kob_policy_review.proofs.difference.push_hosts.Given as goal

abbrev pub invariant-loop-host : goal.invariant-loop-host
invariant-loop-host l = l.out.items ≡ l.initial.out.items
    ++ flat_map (changes_from l.asked l.others l.target l.principal) (take l.host-index l.hosts)
