use Rattle.kob_authorizer.proofs.Words.{[], fold, take, with_removal, ◌≡◌}
use Rattle.kob_authorizer.proofs.removal.removals_among.Given as goal

abbrev pub invariant-loop-entry : goal.invariant-loop-entry
invariant-loop-entry l = l.removals.items ≡ fold (with_removal l.patterns) [] (take l.entry-index l.taken)
