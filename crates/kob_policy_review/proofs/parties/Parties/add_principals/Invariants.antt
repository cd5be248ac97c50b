use Rattle.std.proofs.Common.{take, ◌≡◌}
use Rattle.std.specs.List.{fold}
use Rattle.kob_policy_review.specs.Classes.{with_principal}
use Rattle.kob_policy_review.proofs.parties.Parties.add_principals.Given as goal

abbrev pub invariant-loop-entry : goal.invariant-loop-entry
invariant-loop-entry l = l.self ≡ fold with_principal l.initial.self (take l.entry-index l.entries)
