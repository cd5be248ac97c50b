use Rattle.std.proofs.Common.{take, ◌++◌, ◌≡◌}
use Rattle.std.specs.List.{flat_map}
use Rattle.kob_policy_review.specs.Shadows.{bearing_from}
use Rattle.kob_policy_review.proofs.shadows.push_by.Given as goal

abbrev pub invariant-loop-host : goal.invariant-loop-host
invariant-loop-host l = l.out.items ≡ l.initial.out.items
    ++ flat_map (bearing_from l.beaten l.asking.items) (take l.host-index l.host-items)
