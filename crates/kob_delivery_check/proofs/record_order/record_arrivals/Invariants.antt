use Rattle.std.proofs.Common.{map, take, ◌≡◌}
use Rattle.kob_delivery_check.specs.Order.{record_arrival}
use Rattle.kob_delivery_check.proofs.record_order.record_arrivals.Given as goal

abbrev pub invariant-loop-stored : goal.invariant-loop-stored
invariant-loop-stored l = l.arrivals.items ≡ map record_arrival (take l.stored-index l.records)
