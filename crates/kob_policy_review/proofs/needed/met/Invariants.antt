use Rattle.std.proofs.Common.{take, ◌≡◌}
use Rattle.kob_policy_review.specs.Needed.{met}
use Rattle.kob_policy_review.proofs.needed.met.Given as goal

abbrev pub invariant-loop-entry : goal.invariant-loop-entry
invariant-loop-entry l = l.made.items ≡ met l.permission l.host l.operation (take l.entry-index l.entries)
