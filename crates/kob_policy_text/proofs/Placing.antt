-- Where a number stands first in a list, with one more number.
use Rattle.std.proofs.Common.{Bool, List, None, Option, Some, [], ap, arith, cond, false, get_or, length, position, refl, sym, take, true, ℕ, ◌++◌, ◌+◌, ◌<◌, ◌==◌, ◌∙◌, ◌∷◌, ◌≡◌}
use Rattle.std.proofs.lemmas.Iterator.Adapters.{position_from-zero}
use Rattle.std.proofs.lemmas.List.{take_more}
use Rattle.std.proofs.lemmas.List.{length-take}
use Rattle.std.specs.List.{position_from}
use Rattle.kob_policy_text.specs.Policy.{first_place}

module _ (test : ℕ → Bool) where
  from_put : (n : ℕ) (xs : List ℕ) (x : ℕ)
      → position_from test n (xs ++ x ∷ []) ≡ first_place (position_from test n xs) (test x) (n + length xs)
  from_put n [] x = ap (λ m. cond (test x) (Some m) None) (let zero_more : n ≡ n + 0 = omega arith in zero_more)
  from_put n (y ∷ xs) x =
      elim (test y) as (λ b. cond b (Some n) (position_from test (n + 1) (xs ++ x ∷ []))
      ≡ first_place (cond b (Some n) (position_from test (n + 1) xs)) (test x) (n + length (y ∷ xs))) [
        | true ↦ refl
        | false ↦
            from_put (n + 1) xs x
            ∙ ap (first_place (position_from test (n + 1) xs) (test x))
            (let same : n + 1 + length xs ≡ n + length (y ∷ xs) = omega arith in same)
      ]

  put : (xs : List ℕ) (x : ℕ) → position test (xs ++ x ∷ []) ≡ first_place (position test xs) (test x) (length xs)
  put xs x =
      position_from-zero test (xs ++ x ∷ []) ∙ from_put 0 xs x
      ∙ ap (first_place (position_from test 0 xs) (test x))
      (let counted : 0 + length xs ≡ length xs = omega arith in counted)
      ∙ ap (λ place. first_place place (test x) (length xs)) (sym (position_from-zero test xs))

pub first_more : (xs : List ℕ) (place serial : ℕ) (before : Option ℕ) → place < length xs
    → before ≡ position (λ other. other == serial) (take place xs)
    → first_place before (get_or xs place 0 == serial) place
    ≡ position (λ other. other == serial) (take (place + 1) xs)
first_more xs place serial before below is =
    ap (λ b. first_place b (get_or xs place 0 == serial) place) is
    ∙ ap (first_place (position (λ other. other == serial) (take place xs)) (get_or xs place 0 == serial))
    (let long : place ≡ length (take place xs) = omega (arith, length-take place xs) in long)
    ∙ sym (put (λ other. other == serial) (take place xs) (get_or xs place 0))
    ∙ ap (position (λ other. other == serial)) (sym (take_more xs place 0 below))
