use Rattle.std.proofs.Common.{take, ◌++◌, ◌≡◌}
use Rattle.std.specs.List.{flat_map}
use Rattle.kob_policy_review.specs.Needed.{needed_by}
use Rattle.kob_policy_review.proofs.needed.push_needed_to_each.Given as goal

abbrev pub invariant-loop-principal : goal.invariant-loop-principal
invariant-loop-principal l =
    l.out.items ≡ l.initial.out.items
    ++ flat_map (needed_by l.rules.contents.supers l.rules.contents.everyone l.matching)
    (take l.principal-index l.principal-items)
