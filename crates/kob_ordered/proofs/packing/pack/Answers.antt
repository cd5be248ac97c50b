use Rattle.kob_ordered.proofs.Words.{IsSound, ap, arith, common_steps, entries_in, filter_from_retain, is_entry, length, rank, rules, slice_index_or, subst, sym, ℕ, ◌<◌, ◌∙◌}
use Rattle.kob_ordered.proofs.Places.{packed}
use Rattle.kob_ordered.proofs.Sound.{none_left, sound_packed, within_slots}
use Rattle.kob_ordered.proofs.packing.pack.Goals as goal

pub renumber-requires : goal.renumber-requires
renumber-requires g c = λ k lt. grind (arith, common_steps, within_slots c.args.slots.now.items c.args.by_name.now.items c.requires k)

pub returns-clause-sound : goal.returns-clause-sound
returns-clause-sound g c =
    let slots = c.args.slots.now.items in let by_name = c.args.by_name.now.items in
    let kept = filter_from_retain _ is_entry (λ f slot b h call. search rules) _ slots
    c.retain.new.self.items c.retain.ensures.filtered in
    let told = λ (k : ℕ) (lt : k < length by_name). c.renumber.ensures.ranks k lt
    ∙ ap (λ rs. slice_index_or rs (slice_index_or by_name k 0) 0) c.as_slice-2.ensures.value
    ∙ c.in_ok-ranks.ensures.ranks (slice_index_or by_name k 0)
    (subst (λ n. slice_index_or by_name k 0 < n) (sym (ap length c.as_slice.ensures.value))
    (within_slots slots by_name c.requires k lt))
    ∙ ap (λ xs. rank xs (slice_index_or by_name k 0)) c.as_slice.ensures.value in
    subst (λ xs. IsSound xs c.renumber.new.places.items) (sym kept)
    (sound_packed slots by_name c.renumber.new.places.items c.requires c.renumber.ensures.size told)

pub returns-clause-entries : goal.returns-clause-entries
returns-clause-entries g c =
    let kept = filter_from_retain _ is_entry (λ f slot b h call. search rules) _ c.args.slots.now.items
    c.retain.new.self.items c.retain.ensures.filtered in
    ap entries_in kept ∙ packed c.args.slots.now.items

pub returns-clause-packed : goal.returns-clause-packed
returns-clause-packed g c =
    let slots = c.args.slots.now.items in let by_name = c.args.by_name.now.items in
    let kept = filter_from_retain _ is_entry (λ f slot b h call. search rules) _ slots
    c.retain.new.self.items c.retain.ensures.filtered in
    ap length kept ∙ none_left slots by_name c.requires ∙ sym c.renumber.ensures.size
