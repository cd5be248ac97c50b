use Rattle.std.proofs.Common.{◌≡◌, ◌&&◌, map, ℕ, None, nat_eq, bytes_eq, unwrap_or, reverse, take}
use Rattle.std.specs.HashMap.{get}
use Rattle.kob_delivery_check.specs.Order.{id_before, last_of}
use Rattle.kob_delivery_check.proofs.order.earlier_ids.Given as goal

abbrev pub invariant-loop-event : goal.invariant-loop-event
invariant-loop-event l =
    ((kind id : _) → get (λ p q. bytes_eq p.0.now q.0.now && bytes_eq p.1.now q.1.now) l.last (kind, id)
    ≡ last_of kind.now id.now (reverse (map (λ event. event.now) (take l.event-index l.events))))
    × ((id : ℕ) → unwrap_or (get nat_eq l.earlier id) None
    ≡ id_before id (reverse (map (λ event. event.now) (take l.event-index l.events))))
