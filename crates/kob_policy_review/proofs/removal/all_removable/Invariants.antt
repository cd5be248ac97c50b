use Rattle.std.proofs.Common.{take, ◌≡◌, []}
use Rattle.std.specs.List.{fold}
use Rattle.kob_policy_review.specs.Removal.{with_removable}
use Rattle.kob_policy_review.proofs.removal.all_removable.Given as goal

abbrev pub invariant-loop-entry : goal.invariant-loop-entry
invariant-loop-entry l = l.gone ≡ fold (with_removable l.sites) [] (take l.entry-index l.entries)
