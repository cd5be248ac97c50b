use Rattle.std.proofs.Common.{take, ◌≡◌}
use Rattle.std.specs.List.{fold}
use Rattle.kob_policy_review.specs.Classes.{with_host}
use Rattle.kob_policy_review.proofs.matching.add_hosts.Given as goal

abbrev pub invariant-loop-entry : goal.invariant-loop-entry
invariant-loop-entry l = l.made.items ≡ fold with_host l.initial.made.items (take l.entry-index l.entries)
