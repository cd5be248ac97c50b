use Rattle.kob_router.proofs.Words.{nat_tests, List, Place, Sequence, after_use, ap, arith, cond-true, drop, drop_more, get_or, length, next_sequence, same_place, set, set_split, sym, take, true, ℕ, ◌++◌, ◌<◌, ◌∙◌, ◌≡◌}
use Rattle.kob_router.proofs.sequences.use_one.Goals as goal

-- the first sequence of a place is used
changed : (ss : List Sequence) (i : ℕ) (d : Sequence) (place : Place) (next : ℕ) → i < length ss
    → same_place (get_or ss i d).place place ≡ true → next ≡ next_sequence (get_or ss i d).next
    → set ss i (record { place = (get_or ss i d).place; next = next }) ≡ take i ss ++ after_use (drop i ss) place
changed ss i d place next within same is = grind (arith, nat_tests, drop_more, cond-true, set, set_split)

pub returns-then-is_same_place : goal.returns-then-is_same_place
returns-then-is_same_place c =
    let within : c.loop-i.i < length c.loop-i.sequences = omega arith in
    changed c.loop-i.sequences c.loop-i.i c.index-sequences-i.result c.args.place.now c.next_sequence-sequence.result
    within (sym c.is_same_place.ensures ∙ c.if-is_same_place.true) c.next_sequence-sequence.ensures.next
    ∙ c.loop-i.invariant.rest ∙ ap (λ (xs : List Sequence). after_use xs c.args.place.now) c.loop-i.invariant.same
