use Rattle.std.proofs.Common.{map, nat_eq, reverse, take, ℕ, ◌≡◌}
use Rattle.std.specs.HashMap.{get}
use Rattle.std.specs.Option.{option_copied}
use Rattle.kob_delivery_check.specs.Altered.{event_with}
use Rattle.kob_delivery_check.proofs.altered.events_by_id.Given as goal

abbrev pub invariant-loop-event : goal.invariant-loop-event
invariant-loop-event l = (id : ℕ)
    → option_copied (get nat_eq l.recorded id)
    ≡ event_with id (reverse (map (λ event. event.now) (take l.event-index l.events)))
