use Rattle.std.proofs.Common.{map, take, ◌++◌, ◌≡◌}
use Rattle.kob_delivery_check.specs.Doubles.{double_lines}
use Rattle.kob_delivery_check.proofs.printed_doubles.push_doubled_rows.Given as goal

abbrev pub invariant-loop-place : goal.invariant-loop-place
invariant-loop-place l =
    l.out.items ≡ l.initial.out.items ++ double_lines (map (λ event. event.now) l.events) (take l.place l.doubles)
