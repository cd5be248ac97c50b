use Rattle.kob_ordered.proofs.Words.{Some, arith, common_steps, get_or_from_slice_get, names_in, slice_get, subst, ◌≡◌}
use Rattle.kob_ordered.proofs.Places.{entry_at}
use Rattle.kob_ordered.proofs.Sound.{value_at}
use Rattle.kob_ordered.proofs.ordered_map.OrderedMap.get.Goals as goal

pub returns : goal.returns
returns g c =
    let slots = c.self.inside.slots.items in let name = c.args.name.now in let place = c.in_ok-place.place in
    let at = entry_at slots place name (subst (λ xs. slice_get (names_in xs) place ≡ Some (Some name)) c.as_slice.ensures.value
    c.in_ok-place.ensures.stands) in
    let entry = get_or_from_slice_get slots place _ c.index.result.now at.1 in
    let value = value_at slots c.self.inside.by_name.items c.self.invariant name place at.0 at.1 in grind (arith, common_steps)
