use Rattle.std.proofs.Common.{take, ◌++◌, ◌≡◌}
use Rattle.std.specs.List.{enumerate_from, flat_map}
use Rattle.kob_delivery_check.specs.Reaches.{stored_at}
use Rattle.kob_delivery_check.proofs.reach.push_from.Given as goal

abbrev pub invariant-loop-offset : goal.invariant-loop-offset
invariant-loop-offset l =
    l.ahead.items ≡ l.initial.ahead.items
    ++ flat_map (λ x. stored_at l.assigned l.from x) (enumerate_from 0 (take l.offset l.events))
