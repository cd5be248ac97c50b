use Rattle.std.proofs.Common.{map, take, ◌≡◌}
use Rattle.std.specs.List.{enumerate_from, flat_map}
use Rattle.kob_delivery_check.specs.Order.{early_within}
use Rattle.kob_delivery_check.proofs.record_order.early_records.Given as goal

abbrev pub invariant-loop-assigned : goal.invariant-loop-assigned
invariant-loop-assigned l =
    l.early.items ≡ flat_map (λ x. early_within l.assignment (map (λ event. event.now) l.events) x)
    (enumerate_from 0 (take l.assigned l.reaches))
