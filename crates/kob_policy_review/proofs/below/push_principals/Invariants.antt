use Rattle.std.proofs.Common.{take, ◌++◌, ◌≡◌}
use Rattle.std.specs.List.{flat_map}
use Rattle.kob_policy_review.specs.Sharing.{reaches_near}
use Rattle.kob_policy_review.proofs.below.push_principals.Given as goal

abbrev pub invariant-loop-principal : goal.invariant-loop-principal
invariant-loop-principal l = l.out.items ≡ l.initial.out.items
    ++ flat_map (reaches_near l.supers l.names l.near l.operation) (take l.principal-index l.principals)
