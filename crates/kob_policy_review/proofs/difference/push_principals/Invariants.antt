use Rattle.std.proofs.Common.{take, ◌++◌, ◌≡◌}
use Rattle.std.specs.List.{flat_map}
use Rattle.kob_policy_review.specs.Difference.{changes_by}
use Rattle.kob_policy_review.proofs.difference.push_principals.Given as goal

abbrev pub invariant-loop-principal : goal.invariant-loop-principal
invariant-loop-principal l = l.out.items ≡ l.initial.out.items
    ++ flat_map (changes_by l.supers_before l.supers_after l.sides l.target) (take l.principal-index l.principals)
