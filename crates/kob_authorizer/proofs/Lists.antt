-- A list that is read from a place on, after one of its elements was removed or brought to the front.
use Rattle.kob_authorizer.proofs.Words.{List, [], ap, append_assoc, arith, drop, length, refl, subst, suc, take, zero, ℕ, ◌++◌, ◌+◌, ◌<◌, ◌∙◌, ◌∷◌, ◌≡◌}
use Rattle.std.specs.Prelude.{◌-◌}
use Rattle.std.specs.List.{remove}
use borrow.Rule.Slice.PartMut.{mid_of, put_mid}

module _ {X : Type 0} where
  removed_is : (xs : List X) (place : ℕ) → take place xs ++ drop (suc place) xs ≡ remove xs place
  removed_is [] zero = refl
  removed_is [] (suc place) = refl
  removed_is (x ∷ xs) zero = refl
  removed_is (x ∷ xs) (suc place) = ap (λ ys. x ∷ ys) (removed_is xs place)

  taken_within : (xs : List X) (place : ℕ) → take place (take (suc place) xs) ≡ take place xs
  taken_within [] zero = refl
  taken_within [] (suc place) = refl
  taken_within (x ∷ xs) zero = refl
  taken_within (x ∷ xs) (suc place) = ap (λ ys. x ∷ ys) (taken_within xs place)

  -- the one element behind the others goes first, and what is behind it is the rest
  last_of : (xs ys : List X) (place : ℕ) → place < length xs → drop 1 (drop place (take (suc place) xs) ++ ys) ≡ ys
  last_of [] ys place below = absurd (omega (arith, below))
  last_of (x ∷ xs) ys zero below = refl
  last_of (x ∷ xs) ys (suc place) below = last_of xs ys place (omega (arith, below))

  length_taken : (xs : List X) (place : ℕ) → place < length xs → length (take (suc place) xs) ≡ suc place
  length_taken [] place below = absurd (omega (arith, below))
  length_taken (x ∷ xs) zero below = refl
  length_taken (x ∷ xs) (suc place) below = ap suc (length_taken xs place (omega (arith, below)))

  brought_from : (xs ys : List X) (place n : ℕ) → place < length xs → n ≡ place
      → ys ≡ drop n (take (suc place) xs) ++ take n (take (suc place) xs)
      → drop 1 (ys ++ drop (suc place) xs) ≡ remove xs place
  brought_from xs ys place n below last is =
      ap (λ zs. drop 1 (zs ++ drop (suc place) xs))
      (is ∙ ap (λ n. drop n (take (suc place) xs) ++ take n (take (suc place) xs)) last)
      ∙ ap (drop 1) (append_assoc (drop place (take (suc place) xs)) (take place (take (suc place) xs)) (drop (suc place) xs))
      ∙ last_of xs (take place (take (suc place) xs) ++ drop (suc place) xs) place below
      ∙ ap (λ zs. zs ++ drop (suc place) xs) (taken_within xs place)
      ∙ removed_is xs place

  brought : (first place n : ℕ) (xs ys : List X) → first + place < length xs → n ≡ place
      → ys ≡ drop n (mid_of first (suc place) xs) ++ take n (mid_of first (suc place) xs)
      → drop (suc first) (put_mid first (suc place) xs ys) ≡ remove (drop first xs) place
  brought zero place n xs ys below last is = brought_from xs ys place n (omega (arith, below)) last is
  brought (suc first) place n [] ys below last is = absurd (omega (arith, below))
  brought (suc first) place n (x ∷ xs) ys below last is =
      brought first place n xs ys (omega (arith, below)) last is

  length_mid : (first place : ℕ) (xs : List X) → first + place < length xs → length (mid_of first (suc place) xs) ≡ suc place
  length_mid zero place xs below = length_taken xs place (omega (arith, below))
  length_mid (suc first) place [] below = absurd (omega (arith, below))
  length_mid (suc first) place (x ∷ xs) below = length_mid first place xs (omega (arith, below))

  -- after the slots from one on, up to a place, were turned by one to the right
  pub brought_first : (first place after count : ℕ) (xs ys : List X) → first + place < length xs
      → after ≡ suc first → count ≡ suc place
      → ys ≡ drop (length (mid_of first count xs) - 1) (mid_of first count xs)
      ++ take (length (mid_of first count xs) - 1) (mid_of first count xs)
      → drop after (put_mid first count xs ys) ≡ remove (drop first xs) place
  brought_first first place after count xs ys below next counted is =
      let n : length (mid_of first (suc place) xs) - 1 ≡ place = omega (arith, length_mid first place xs below) in
      ap (λ a. drop a (put_mid first count xs ys)) next ∙ ap (λ k. drop (suc first) (put_mid first k xs ys)) counted
      ∙ brought first place (length (mid_of first (suc place) xs) - 1) xs ys below n
      (subst (λ k. ys ≡ drop (length (mid_of first k xs) - 1) (mid_of first k xs)
      ++ take (length (mid_of first k xs) - 1) (mid_of first k xs)) counted is)

  -- a removal behind the slots that are passed over
  pub removed_behind : (first place at : ℕ) (xs : List X) → at ≡ first + place
      → drop first (remove xs at) ≡ remove (drop first xs) place
  removed_behind zero place at xs is = ap (remove xs) (omega (arith, is))
  removed_behind (suc first) place zero xs is = absurd (omega (arith, is))
  removed_behind (suc first) zero (suc at) [] is = refl
  removed_behind (suc first) (suc place) (suc at) [] is = refl
  removed_behind (suc first) place (suc at) (x ∷ xs) is = removed_behind first place at xs (omega (arith, is))
