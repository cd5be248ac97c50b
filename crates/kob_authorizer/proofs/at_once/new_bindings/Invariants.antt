use Rattle.kob_authorizer.proofs.Words.{enumerate_from, length, new_bindings, serials_in, ◌++◌, ◌+◌, ◌≡◌, ◌≤◌}
use Rattle.kob_authorizer.specs.Creation.{serial_limit}
use Rattle.kob_authorizer.proofs.at_once.new_bindings.Given as goal

abbrev pub invariant-loop-binding : goal.invariant-loop-binding
invariant-loop-binding l =
    (goal.iterator-loop-binding).can_next l.binding-iterator ×
    (goal.iterator-loop-binding).is_finite l.binding-iterator ×
    (l.fresh ≡ new_bindings l.entries l.yielded) ×
    (l.next + length l.fresh ≤ serial_limit
    → l.serials.items ≡ serials_in (l.entries ++ enumerate_from l.next l.fresh) l.yielded)
