use Rattle.kob_authorizer.proofs.Words.{enumerate_from, length, ◌++◌, ◌+◌, ◌≡◌}
use Rattle.kob_authorizer.proofs.fresh.numbered_from.Given as goal

abbrev pub invariant-loop-candidate : goal.invariant-loop-candidate
invariant-loop-candidate l =
    (goal.iterator-loop-candidate).can_next l.candidate-iterator ×
    (goal.iterator-loop-candidate).is_finite l.candidate-iterator ×
    (l.numbered.items ++ enumerate_from l.serial l.candidate-iterator ≡ enumerate_from l.next l.fn.bindings.keys) ×
    (l.serial + length l.candidate-iterator ≡ l.next + length l.fn.bindings.keys)
