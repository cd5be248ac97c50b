use Rattle.std.proofs.Common.{map, take, ◌≡◌}
use Rattle.kob_delivery_check.specs.Fates.{fate_of}
use Rattle.kob_delivery_check.proofs.fates.fates_of.Given as goal

abbrev pub invariant-loop-event : goal.invariant-loop-event
invariant-loop-event l =
    l.fates.items ≡ map (λ event. fate_of (map (λ event. event.now) l.events) l.fn.taken l.fn.ahead l.fn.waiting event.id)
    (map (λ event. event.now) (take l.event-index l.events))
