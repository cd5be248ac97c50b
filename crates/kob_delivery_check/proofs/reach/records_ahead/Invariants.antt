use Rattle.std.proofs.Common.{take, ◌≡◌}
use Rattle.std.specs.List.{enumerate_from, flat_map}
use Rattle.kob_delivery_check.specs.Reaches.{records_within}
use Rattle.kob_delivery_check.proofs.reach.records_ahead.Given as goal

abbrev pub invariant-loop-assigned : goal.invariant-loop-assigned
invariant-loop-assigned l =
    l.ahead.items ≡ flat_map (λ x. records_within x) (enumerate_from 0 (take l.assigned l.reaches))
