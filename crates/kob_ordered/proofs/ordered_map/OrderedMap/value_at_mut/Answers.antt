use Rattle.kob_ordered.proofs.Words.{Some, ap, get_or_from_slice_get, lookup, name_at, refl, same_text, slice_get, sym, ◌∙◌, ◌≡◌}
use Rattle.kob_ordered.proofs.Places.{entry_at}
use Rattle.kob_ordered.proofs.Sound.{sound_lent, value_at, view_lent}
use Rattle.kob_ordered.proofs.ordered_map.OrderedMap.value_at_mut.Goals as goal

pub invariant_of-self-lent : goal.invariant_of-self-lent
invariant_of-self-lent g c w =
    let slots = c.self.inside.slots.items in let place = c.args.place in let name = name_at c.args.self.now place in
    let at = entry_at slots place name (ap (λ m. slice_get m.names place) c.self.view_is ∙ c.requires) in
    sound_lent slots c.self.inside.by_name.items c.self.invariant name place at.0 at.1 w c.index_mut.result.now
    (c.index_mut.ensures.value ∙ get_or_from_slice_get slots place _ c.index_mut.result.now at.1)

pub returns : goal.returns
returns g c =
    let slots = c.self.inside.slots.items in let place = c.args.place in let name = name_at c.args.self.now place in
    let by_name = c.self.inside.by_name.items in
    let at = entry_at slots place name (ap (λ m. slice_get m.names place) c.self.view_is ∙ c.requires) in
    let entry = c.index_mut.ensures.value ∙ get_or_from_slice_get slots place _ c.index_mut.result.now at.1 in
    let value = c.value_mut.ensures.value in
    let same : at.0 ≡ c.value_mut.result.now = cc in (
      (refl, λ w. view_lent slots by_name c.self.invariant name place at.0 at.1 w _ entry _ _ _ c.self.view_is),
      record {
        writes_back = tt;
        value = sym (ap (λ m. lookup (same_text name) m.entries) c.self.view_is)
            ∙ value_at slots by_name c.self.invariant name place at.0 at.1 ∙ ap Some same;
      },
    )
