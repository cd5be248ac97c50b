use Rattle.kob_router.proofs.Words.{common_steps, List, Place, Sequence, [], arith, false, has_place, nat_tests, refl, sym, true, true≢false, with_sequence_for, ◌++◌, ◌∷◌, ◌≡◌}
use Rattle.kob_router.proofs.sequences.Sequences.prepare.Goals as goal

prepared_there : (ss : List Sequence) (p : Place) → has_place ss p ≡ true → with_sequence_for ss p ≡ ss
prepared_there [] p there = absurd (true≢false (sym there))
prepared_there (s ∷ ss) p there = grind (arith, nat_tests, prepared_there ss p)

prepared_new : (ss : List Sequence) (p : Place) → has_place ss p ≡ false
    → with_sequence_for ss p ≡ ss ++ record { place = p; next = 0 } ∷ []
prepared_new [] p new = refl
prepared_new (s ∷ ss) p new = grind (arith, nat_tests, prepared_new ss p)

pub returns-then-has_place-clause-ok : goal.returns-then-has_place-clause-ok
returns-then-has_place-clause-ok c = grind (arith, common_steps, prepared_there)

pub returns-clause-ok : goal.returns-clause-ok
returns-clause-ok c = grind (arith, common_steps, prepared_new)
