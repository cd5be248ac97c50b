use Rattle.std.proofs.Common.{refl, sym}
use Rattle.std.proofs.lemmas.Option.{get_or_from_slice_get}
use Rattle.kob_delivery_check.proofs.More.{number_to}
use Rattle.kob_delivery_check.proofs.come.ids_come.Goals as goal

pub loop-place-preserved : goal.loop-place-preserved
loop-place-preserved c id =
    let arrivals = c.args.arrivals.now in
    let arrival = c.arrival_at.result in
    number_to (λ other. other.event) arrivals c.loop-place.place arrival arrival.event id _ _ c.loop-place-test.true
    (sym (get_or_from_slice_get arrivals c.loop-place.place arrival arrival c.arrival_at.ensures)) refl
    (c.in_ok-insert.ensures.updates.0 id) (c.loop-place.invariant id)
