use Rattle.std.proofs.Common.{take, ◌≡◌}
use Rattle.std.specs.FinMap as finite
use Rattle.std.specs.List.{fold}
use Rattle.kob_policy_review.specs.Finding.{with_asker}
use Rattle.kob_policy_review.proofs.askers.askers_in.Given as goal

abbrev pub invariant-loop-entry : goal.invariant-loop-entry
invariant-loop-entry l = l.principals ≡ fold with_asker finite.empty (take l.entry-index l.entries)
