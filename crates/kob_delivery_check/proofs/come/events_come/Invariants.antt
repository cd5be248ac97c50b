use Rattle.std.proofs.Common.{map, take, ◌≡◌}
use Rattle.kob_delivery_check.specs.Order.{events_come}
use Rattle.kob_delivery_check.proofs.come.events_come.Given as goal

abbrev pub invariant-loop-event : goal.invariant-loop-event
invariant-loop-event l =
    map (λ event. event.now) l.come.items
    ≡ events_come (map (λ event. event.now) (take l.event-index l.events)) l.fn.arrivals
