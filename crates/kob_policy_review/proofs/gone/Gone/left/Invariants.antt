use Rattle.std.proofs.Common.{take, ◌≡◌}
use Rattle.std.specs.List.{filter}
use Rattle.kob_policy_review.specs.Redundancy.{is_outside}
use Rattle.kob_policy_review.specs.Removal.{is_among}
use Rattle.kob_policy_review.proofs.gone.Gone.left.Given as goal

abbrev pub invariant-loop-entry : goal.invariant-loop-entry
invariant-loop-entry l = l.made.items ≡ filter (is_outside (is_among l.self)) (take l.entry-index l.entries)
