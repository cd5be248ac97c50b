use Rattle.std.proofs.Common.{take, ◌≡◌}
use Rattle.std.specs.List.{flat_map}
use Rattle.kob_policy_review.specs.Shadows.{bearing_on}
use Rattle.kob_policy_review.proofs.shadows.bearing.Given as goal

abbrev pub invariant-loop-target : goal.invariant-loop-target
invariant-loop-target l = l.out.items ≡ flat_map (bearing_on l.beaten l.finder) (take l.target-index l.target-items)
