use Rattle.std.proofs.Common.{map, take, ◌≡◌}
use Rattle.kob_delivery_check.specs.Order.{row_arrival}
use Rattle.kob_delivery_check.proofs.come.row_arrivals.Given as goal

abbrev pub invariant-loop-row : goal.invariant-loop-row
invariant-loop-row l = l.arrivals.items ≡ map row_arrival (take l.row-index l.rows)
