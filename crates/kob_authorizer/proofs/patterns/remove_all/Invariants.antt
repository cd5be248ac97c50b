use Rattle.kob_authorizer.proofs.Words.{fold, without_removal, ◌≡◌}
use Rattle.kob_authorizer.proofs.patterns.remove_all.Given as goal

abbrev pub invariant-loop-removal : goal.invariant-loop-removal
invariant-loop-removal l =
    (goal.iterator-loop-removal).can_next l.removal-iterator ×
    (goal.iterator-loop-removal).is_finite l.removal-iterator ×
    (l.patterns ≡ fold without_removal l.fn.patterns l.yielded)
