use Rattle.kob_authorizer.proofs.Words.{bindings_taken, take, ◌≡◌}
use Rattle.kob_authorizer.proofs.deletion.copies_among.Given as goal

abbrev pub invariant-loop-entry : goal.invariant-loop-entry
invariant-loop-entry l = l.copies.items ≡ bindings_taken l.filter (take l.entry-index l.entries)
