use Rattle.std.proofs.Common.{take, ◌≡◌}
use Rattle.std.specs.List.{filter}
use Rattle.kob_policy_review.specs.Classes.{is_on}
use Rattle.kob_policy_review.proofs.matching.matching.Given as goal

abbrev pub invariant-loop-entry : goal.invariant-loop-entry
invariant-loop-entry l = l.made.items ≡ filter (is_on l.target) (take l.entry-index l.entries)
