use Rattle.std.proofs.Common.{map, take, ◌≡◌}
use Rattle.kob_policy_review.specs.Sites.{row_on, rows_of}
use Rattle.kob_policy_review.proofs.sites.near_of.Given as goal

abbrev pub invariant-loop-target : goal.invariant-loop-target
invariant-loop-target l = rows_of l.near.items ≡ map (row_on l.finder.entries) (take l.target-index l.targets)
