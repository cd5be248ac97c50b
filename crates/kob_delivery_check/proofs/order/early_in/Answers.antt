use Rattle.std.proofs.Common.{[], None, map, nat_eq, refl, rules, sym, take, ◌∙◌, ◌≡◌}
use Rattle.std.proofs.lemmas.Option.{get_or_from_slice_get}
use Rattle.std.specs.HashMap.{get}
use Rattle.std.specs.Option.{unwrap_or}
use Rattle.kob_delivery_check.specs.Order.{early_at}
use Rattle.kob_delivery_check.proofs.Listed.{item_more}
use Rattle.kob_delivery_check.proofs.More.{number_to}
use Rattle.kob_delivery_check.proofs.order.early_in.Goals as goal

pub loop-place-preserved : goal.loop-place-preserved
loop-place-preserved c =
    let arrivals = c.args.arrivals.now in
    let arrival = c.arrival_at-arrival.result in
    let at_place = sym (get_or_from_slice_get arrivals c.loop-place.place arrival arrival c.arrival_at-arrival.ensures) in
    let found : c.unwrap_or-before.result ≡ unwrap_or (get nat_eq c.in_ok-earlier.earlier arrival.event) None = search rules in
    let before = found ∙ c.in_ok-earlier.ensures arrival.event in
    let test = c.is_next.ensures (take c.loop-place.place arrivals) c.loop-place.invariant.1 in (
      item_more (early_at (map (λ event. event.now) c.args.events.now) arrivals) arrivals c.loop-place.place arrival []
          c.loop-place.early.items c.push_unless.new.early.items c.loop-place-test.true at_place c.loop-place.invariant.0
          (rw before at (rw test at c.in_ok-push_unless.ensures)),
      λ id. number_to (λ other. other.event) arrivals c.loop-place.place arrival arrival.event id _ _ c.loop-place-test.true
          at_place refl (c.in_ok-insert.ensures.updates.0 id) (c.loop-place.invariant.1 id),
    )
