use Rattle.std.proofs.Common.{take, ◌++◌, ◌≡◌}
use Rattle.std.specs.List.{flat_map}
use Rattle.kob_policy_review.specs.Granting.{answers_by}
use Rattle.kob_policy_review.proofs.granting.push_principals.Given as goal

abbrev pub invariant-loop-principal : goal.invariant-loop-principal
invariant-loop-principal l = l.out.items ≡ l.initial.out.items
    ++ flat_map (answers_by l.supers l.opened l.matching l.operation) (take l.principal-index l.principals)
