use Rattle.std.proofs.Common.{map, take, ◌++◌, ◌≡◌}
use Rattle.std.specs.List.{enumerate_from, flat_map}
use Rattle.kob_delivery_check.specs.PrintedRecords.{doubled_item}
use Rattle.kob_delivery_check.proofs.printed_records.push_doubles.Given as goal

abbrev pub invariant-loop-place : goal.invariant-loop-place
invariant-loop-place l =
    l.out.items ≡ l.initial.out.items
    ++ flat_map (λ x. doubled_item l.journal l.assignment l.repeats x) (enumerate_from 0 (take l.place (map (λ event. event.now) l.events)))
