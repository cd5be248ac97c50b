use Rattle.std.proofs.Common.{map, take, ◌++◌, ◌≡◌}
use Rattle.kob_delivery_check.specs.PrintedOrder.{row_lines}
use Rattle.kob_delivery_check.proofs.printed_order.push_rows.Given as goal

abbrev pub invariant-loop-one : goal.invariant-loop-one
invariant-loop-one l =
    l.out.items ≡ l.initial.out.items ++ row_lines (map (λ event. event.now) l.events) (take l.one-index l.early)
