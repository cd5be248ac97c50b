use Rattle.std.proofs.Common.{take, ◌≡◌}
use Rattle.std.specs.FinMap as finite
use Rattle.std.specs.List.{fold}
use Rattle.kob_policy_review.specs.Finding.{with_name}
use Rattle.kob_policy_review.proofs.finder.names_in.Given as goal

abbrev pub invariant-loop-entry : goal.invariant-loop-entry
invariant-loop-entry l = l.names ≡ fold with_name finite.empty (take l.entry-index l.entries)
