use Rattle.kob_groups.proofs.Words.{keys_of, ◌++◌, ◌≡◌}
use Rattle.kob_groups.proofs.groups.Groups.names.Given as goal

abbrev pub invariant-loop-name : goal.invariant-loop-name
invariant-loop-name l = l.names.items ++ keys_of l.name-iterator ≡ keys_of l.self.by_name.entries
