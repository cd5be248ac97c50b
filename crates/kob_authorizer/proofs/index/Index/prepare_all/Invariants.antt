use Rattle.kob_authorizer.proofs.Words.{leaf_of, map, take, ◌≡◌}
use Rattle.kob_authorizer.proofs.index.Index.prepare_all.Given as goal

abbrev pub invariant-loop-entry : goal.invariant-loop-entry
invariant-loop-entry l = l.leaves.items ≡ map leaf_of (take l.entry-index l.entries)
