use Rattle.std.proofs.Common.{map, take, ◌≡◌}
use Rattle.kob_policy_review.specs.Below.{place_on}
use Rattle.kob_policy_review.proofs.named_below.places_on.Given as goal

abbrev pub invariant-loop-target : goal.invariant-loop-target
invariant-loop-target l = l.made.items ≡ map (place_on l.rules) (take l.target-index l.targets)
