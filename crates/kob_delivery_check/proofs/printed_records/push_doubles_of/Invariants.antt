use Rattle.std.proofs.Common.{take, ◌++◌, ◌≡◌}
use Rattle.std.specs.List.{flat_map}
use Rattle.kob_delivery_check.specs.PrintedRecords.{doubled_by}
use Rattle.kob_delivery_check.proofs.printed_records.push_doubles_of.Given as goal

abbrev pub invariant-loop-at : goal.invariant-loop-at
invariant-loop-at l =
    l.out.items ≡ l.initial.out.items ++ flat_map (doubled_by l.journal l.assignment l.place l.event) (take l.at l.repeats)
