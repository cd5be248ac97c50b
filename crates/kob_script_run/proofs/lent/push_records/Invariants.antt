use Rattle.std.specs.Prelude.{◌≡◌, ◌++◌, flat_map, take}
use Rattle.std.specs.List.{enumerate_from}
use Rattle.kob_script.specs.Printed.{record_item}
use Rattle.kob_script_run.proofs.lent.push_records.Given as goal

abbrev pub invariant-loop-at : goal.invariant-loop-at
invariant-loop-at l =
    l.out.items ≡ l.initial.out.items ++ flat_map record_item (enumerate_from l.first (take l.at l.records.records))
