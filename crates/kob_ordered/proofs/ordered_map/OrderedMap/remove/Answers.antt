use Rattle.kob_ordered.proofs.Words.{arith, common_steps, entries_in, get_or_from_slice_get, refl, slice_get_within}
use Rattle.kob_ordered.proofs.Entries.{gone, none_of, removed_absent}
use Rattle.kob_ordered.proofs.Search.{taken_at}
use Rattle.kob_ordered.proofs.Sound.{left, sound_holed, value_at}
use Rattle.kob_ordered.proofs.ordered_map.OrderedMap.remove.Goals as goal

pub returns-in_default-clause-entries : goal.returns-in_default-clause-entries
returns-in_default-clause-entries g c = grind (arith, common_steps, none_of, removed_absent)

pub take_at-place-requires : goal.take_at-place-requires
take_at-place-requires g c = grind (arith, common_steps, slice_get_within)

pub invariant_of-self : goal.invariant_of-self
invariant_of-self g c =
    let slots = c.self.inside.slots.items in let name = c.args.name.now in let sound = c.self.invariant in
    let at = taken_at c.as_slice.ensures.value refl c.in-Ok.ensures.found c.take_at-place.ensures.value in
    let left = sound_holed slots c.self.inside.by_name.items sound name c.take_at-place.result at.value at.there c.in-Ok.index
    at.listed in
    grind (arith, common_steps)

pub returns-clause-value : goal.returns-clause-value
returns-clause-value g c =
    let slots = c.self.inside.slots.items in let name = c.args.name.now in let sound = c.self.invariant in
    let at = taken_at c.as_slice.ensures.value refl c.in-Ok.ensures.found c.take_at-place.ensures.value in
    let value = value_at slots c.self.inside.by_name.items sound name c.take_at-place.result at.value at.there in
    let entry = get_or_from_slice_get slots c.take_at-place.result _ c.index_mut.result.now at.there in grind (arith, common_steps)

pub returns-clause-entries : goal.returns-clause-entries
returns-clause-entries g c =
    let slots = c.self.inside.slots.items in let name = c.args.name.now in let sound = c.self.invariant in
    let at = taken_at c.as_slice.ensures.value refl c.in-Ok.ensures.found c.take_at-place.ensures.value in
    let fewer = left slots c.self.inside.by_name.items sound name c.take_at-place.result at.value at.there in grind (arith, common_steps)

pub returns-clause-gone : goal.returns-clause-gone
returns-clause-gone g c =
    let slots = c.self.inside.slots.items in let name = c.args.name.now in let sound = c.self.invariant in
    let at = taken_at c.as_slice.ensures.value refl c.in-Ok.ensures.found c.take_at-place.ensures.value in
    let fewer = left slots c.self.inside.by_name.items sound name c.take_at-place.result at.value at.there in
    let none = gone name (entries_in slots) sound.distinct in grind (arith, common_steps)
