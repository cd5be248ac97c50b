use Rattle.std.proofs.Common.{map, take, ◌++◌, ◌≡◌}
use Rattle.std.specs.List.{flat_map}
use Rattle.kob_delivery_check.specs.Unrecorded.{unrecorded_line}
use Rattle.kob_delivery_check.proofs.unrecorded.push_unrecorded.Given as goal

abbrev pub invariant-loop-event : goal.invariant-loop-event
invariant-loop-event l =
    l.out.items
    ≡ l.initial.out.items ++ flat_map unrecorded_line (map (λ event. event.now) (take l.event-index l.events))
