use Rattle.kob_delivery.proofs.Words.{fold, take, ◌≡◌}
use Rattle.kob_delivery.specs.Reserved.{with_created}
use Rattle.kob_delivery.proofs.bindings_on.create_opening.Given as goal

abbrev pub invariant-loop-binding : goal.invariant-loop-binding
invariant-loop-binding l =
    l.bindings.items ≡ fold (with_created l.resource l.name) l.fn.bindings.items (take l.binding-index l.opening)
