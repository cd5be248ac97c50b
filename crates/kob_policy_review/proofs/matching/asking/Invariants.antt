use Rattle.std.proofs.Common.{take, ◌≡◌}
use Rattle.std.specs.List.{filter}
use Rattle.kob_policy_review.specs.Classes.{is_for}
use Rattle.kob_policy_review.proofs.matching.asking.Given as goal

abbrev pub invariant-loop-entry : goal.invariant-loop-entry
invariant-loop-entry l = l.made.items ≡ filter (is_for l.principal) (take l.entry-index l.entries)
