use Rattle.std.proofs.Common.{take, ◌≡◌}
use Rattle.std.specs.List.{enumerate_from, flat_map}
use Rattle.kob_delivery_check.specs.Repeats.{records_once}
use Rattle.kob_delivery_check.proofs.repeats.records_of.Given as goal

abbrev pub invariant-loop-assigned : goal.invariant-loop-assigned
invariant-loop-assigned l =
    l.records.items ≡ flat_map (λ x. records_once l.assignment x) (enumerate_from 0 (take l.assigned l.reaches))
