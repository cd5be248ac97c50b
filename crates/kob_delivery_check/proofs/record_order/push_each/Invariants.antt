use Rattle.std.proofs.Common.{map, take, ◌++◌, ◌≡◌}
use Rattle.kob_delivery_check.proofs.record_order.push_each.Given as goal

abbrev pub invariant-loop-one : goal.invariant-loop-one
invariant-loop-one l =
    l.early.items ≡ l.initial.early.items
    ++ map (λ one. record { assigned = l.assigned; early = one }) (take l.one-index l.found)
