use Rattle.std.proofs.Common.{[], refl, sym, ◌∙◌}
use Rattle.std.proofs.lemmas.Option.{get_or_from_slice_get}
use Rattle.kob_delivery_check.specs.Doubles.{double_at}
use Rattle.kob_delivery_check.proofs.Listed.{item_more}
use Rattle.kob_delivery_check.proofs.More.{number_to}
use Rattle.kob_delivery_check.proofs.row_doubles.doubles_in.Goals as goal

pub loop-place-preserved : goal.loop-place-preserved
loop-place-preserved c =
    let arrivals = c.args.arrivals.now in
    let arrival = c.arrival_at-arrival.result in
    let at_place = sym (get_or_from_slice_get arrivals c.loop-place.place arrival arrival c.arrival_at-arrival.ensures) in
    let known = c.contains.ensures ∙ c.loop-place.invariant.1 arrival.event in (
      item_more (double_at arrivals) arrivals c.loop-place.place arrival [] c.loop-place.doubled.items
          c.push_if.new.doubled.items c.loop-place-test.true at_place c.loop-place.invariant.0
          (rw known at c.in_ok-push_if.ensures),
      λ id. number_to (λ other. other.event) arrivals c.loop-place.place arrival arrival.event id _ _ c.loop-place-test.true
          at_place refl (c.in_ok-insert.ensures.updates.0 id) (c.loop-place.invariant.1 id),
    )
