use Rattle.kob_authorizer.proofs.Words.{fold, no_patterns, take, with_entry, ◌≡◌}
use Rattle.kob_authorizer.proofs.patterns.Patterns.of.Given as goal

abbrev pub invariant-loop-entry : goal.invariant-loop-entry
invariant-loop-entry l = l.patterns ≡ fold with_entry no_patterns (take l.entry-index l.entries)
