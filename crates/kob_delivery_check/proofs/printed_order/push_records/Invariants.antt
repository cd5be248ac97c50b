use Rattle.std.proofs.Common.{map, take, ◌++◌, ◌≡◌}
use Rattle.kob_delivery_check.specs.PrintedOrder.{record_lines}
use Rattle.kob_delivery_check.proofs.printed_order.push_records.Given as goal

abbrev pub invariant-loop-place : goal.invariant-loop-place
invariant-loop-place l =
    l.out.items ≡ l.initial.out.items ++ record_lines (map (λ event. event.now) l.events) l.assignment (take l.place l.early)
