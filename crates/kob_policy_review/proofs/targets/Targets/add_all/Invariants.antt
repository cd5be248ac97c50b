use Rattle.std.proofs.Common.{take, ◌≡◌}
use Rattle.std.specs.List.{fold}
use Rattle.kob_policy_review.specs.Classes.{with_target_of}
use Rattle.kob_policy_review.proofs.targets.Targets.add_all.Given as goal

abbrev pub invariant-loop-entry : goal.invariant-loop-entry
invariant-loop-entry l = l.self ≡ fold with_target_of l.initial.self (take l.entry-index l.entries)
