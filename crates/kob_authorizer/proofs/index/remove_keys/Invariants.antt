use Rattle.kob_authorizer.proofs.Words.{fold, without_addition, ◌≡◌}
use Rattle.kob_authorizer.proofs.index.remove_keys.Given as goal

abbrev pub invariant-loop-removal : goal.invariant-loop-removal
invariant-loop-removal l =
    (goal.iterator-loop-removal).can_next l.removal-iterator ×
    (goal.iterator-loop-removal).is_finite l.removal-iterator ×
    (l.keys ≡ fold without_addition l.fn.keys l.yielded)
