use Rattle.kob_authorizer.proofs.Words.{addition, key_place, map, take, ◌≡◌}
use Rattle.kob_authorizer.proofs.removal.key_removals.Given as goal

abbrev pub invariant-loop-entry : goal.invariant-loop-entry
invariant-loop-entry l = l.removals.items ≡ map (addition key_place) (take l.entry-index l.taken)
