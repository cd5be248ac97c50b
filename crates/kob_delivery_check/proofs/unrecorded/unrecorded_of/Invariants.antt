use Rattle.std.proofs.Common.{map, take, ◌≡◌}
use Rattle.kob_delivery_check.specs.Unrecorded.{unrecorded_of}
use Rattle.kob_delivery_check.proofs.unrecorded.unrecorded_of.Given as goal

abbrev pub invariant-loop-event : goal.invariant-loop-event
invariant-loop-event l =
    map (λ event. event.now) l.found.items
    ≡ unrecorded_of (map (λ event. event.now) l.recorded) (map (λ event. event.now) (take l.event-index l.unwritten))
