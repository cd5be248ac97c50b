use Rattle.std.proofs.Common.{take, ◌≡◌}
use Rattle.std.specs.List.{flat_map}
use Rattle.kob_policy_review.specs.Needed.{needed_on}
use Rattle.kob_policy_review.proofs.needed.needed.Given as goal

abbrev pub invariant-loop-target : goal.invariant-loop-target
invariant-loop-target l = l.out.items ≡ flat_map (needed_on l.finder) (take l.target-index l.target-items)
