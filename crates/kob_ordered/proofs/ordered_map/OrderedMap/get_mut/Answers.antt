use Rattle.kob_ordered.proofs.Words.{IsDistinct, Some, ap, get_or_from_slice_get, inl, keys_of, lookup, names_in, same_text, slice_get, subst, sym, ◌∙◌, ◌≡◌}
use Rattle.kob_ordered.proofs.Places.{entry_at}
use Rattle.kob_ordered.proofs.Sound.{sound_lent, value_at, view_lent}
use Rattle.kob_ordered.proofs.ordered_map.OrderedMap.get_mut.Goals as goal

pub invariant_of-self-lent : goal.invariant_of-self-lent
invariant_of-self-lent g c w =
    let slots = c.self.inside.slots.items in let name = c.args.name.now in let place = c.in_ok-place.place in
    let at = entry_at slots place name (subst (λ xs. slice_get (names_in xs) place ≡ Some (Some name))
    c.as_slice.ensures.value c.in_ok-place.ensures.stands) in
    sound_lent slots c.self.inside.by_name.items c.self.invariant name place at.0 at.1 w c.index_mut.result.now
    (c.index_mut.ensures.value ∙ get_or_from_slice_get slots place _ c.index_mut.result.now at.1)

pub returns : goal.returns
returns g c =
    let slots = c.self.inside.slots.items in let name = c.args.name.now in let place = c.in_ok-place.place in
    let by_name = c.self.inside.by_name.items in
    let at = entry_at slots place name (subst (λ xs. slice_get (names_in xs) place ≡ Some (Some name))
    c.as_slice.ensures.value c.in_ok-place.ensures.stands) in
    let entry = c.index_mut.ensures.value ∙ get_or_from_slice_get slots place _ c.index_mut.result.now at.1 in
    let value = c.value_mut.ensures.value in
    let same : at.0 ≡ c.value_mut.result.now = cc in (
      λ t. inl (
        c.value_mut.result.ghost_name,
        λ w. view_lent slots by_name c.self.invariant name place at.0 at.1 w _ entry _ _ _ c.self.view_is t,
      ),
      record {
        writes_back = tt;
        value = ap Some (sym same) ∙ sym (value_at slots by_name c.self.invariant name place at.0 at.1)
            ∙ ap (λ m. lookup (same_text name) m.entries) c.self.view_is;
        names = subst (λ m. IsDistinct same_text (keys_of m.entries)) c.self.view_is c.self.invariant.distinct;
      },
    )
