use Rattle.std.proofs.Common.{take, ◌++◌, ◌≡◌}
use Rattle.std.specs.List.{flat_map}
use Rattle.kob_policy_review.specs.Shadows.{bearing_by}
use Rattle.kob_policy_review.proofs.shadows.push_each.Given as goal

abbrev pub invariant-loop-principal : goal.invariant-loop-principal
invariant-loop-principal l = l.out.items ≡ l.initial.out.items
    ++ flat_map (bearing_by l.beaten l.supers l.matching) (take l.principal-index l.principal-items)
