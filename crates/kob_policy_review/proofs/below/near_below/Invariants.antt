use Rattle.std.proofs.Common.{take, ◌≡◌}
use Rattle.std.specs.List.{filter}
use Rattle.kob_policy_review.specs.Sharing.{is_near}
use Rattle.kob_policy_review.proofs.below.near_below.Given as goal

abbrev pub invariant-loop-entry : goal.invariant-loop-entry
invariant-loop-entry l = l.made.items ≡ filter (is_near l.first l.resource l.prefix) (take l.entry-index l.entry-items)
