use Rattle.std.proofs.Common.{[], refl, sym, ◌∙◌}
use Rattle.std.proofs.lemmas.Option.{get_or_from_slice_get}
use Rattle.kob_delivery_check.specs.Repeats.{repeat_at}
use Rattle.kob_delivery_check.proofs.Listed.{item_more}
use Rattle.kob_delivery_check.proofs.More.{number_to}
use Rattle.kob_delivery_check.proofs.repeats.repeats_of.Goals as goal

pub loop-place-preserved : goal.loop-place-preserved
loop-place-preserved c =
    let records = c.args.records.now in
    let stored = c.record_at-stored.result in
    let at_place = sym (get_or_from_slice_get records c.loop-place.place stored stored c.record_at-stored.ensures) in
    let known = c.contains.ensures ∙ c.loop-place.invariant.1 stored.event in (
      item_more (repeat_at records) records c.loop-place.place stored [] c.loop-place.repeats.items
          c.push_repeat.new.repeats.items c.loop-place-test.true at_place c.loop-place.invariant.0
          (rw known at c.in_ok-push_repeat.ensures),
      λ id. number_to (λ other. other.event) records c.loop-place.place stored stored.event id _ _ c.loop-place-test.true
          at_place refl (c.in_ok-insert.ensures.updates.0 id) (c.loop-place.invariant.1 id),
    )
