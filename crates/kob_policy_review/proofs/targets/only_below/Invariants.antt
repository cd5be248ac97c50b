use Rattle.std.proofs.Common.{take, ◌≡◌}
use Rattle.std.specs.List.{filter}
use Rattle.kob_policy_review.specs.Below.{is_below}
use Rattle.kob_policy_review.proofs.targets.only_below.Given as goal

abbrev pub invariant-loop-target : goal.invariant-loop-target
invariant-loop-target l = l.made.items ≡ filter (is_below l.resource l.prefix) (take l.target-index l.targets)
