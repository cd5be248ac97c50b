-- What items give one after another, each by its number, grows at its end.
use Rattle.std.proofs.Common.{List, [], append-nil, append_assoc, arith, drop, drop_of_length-le, get_or, length, refl, ℕ, ◌++◌, ◌+◌, ◌<◌, ◌∷◌, ◌≡◌, ◌≤◌}
use Rattle.std.proofs.lemmas.Bool.Decides.{nat_tests}
use Rattle.std.proofs.lemmas.List.{drop_more}
use Rattle.kob_policy_text.specs.Numbered.{numbered}

-- what the first of the items that are left gives stands behind
pub numbered_more : {A B : Type 0} (given : ℕ → A → List B) (number : ℕ) (items : List A) (i : ℕ) (d x : A)
    (out new whole : List B)
    → out ++ numbered given number (drop i items) ≡ whole → i < length items → x ≡ get_or items i d
    → new ≡ out ++ given number x → new ++ numbered given (number + 1) (drop (i + 1) items) ≡ whole
unfolding numbered
numbered_more given number items i d x out new whole kept below is more =
    grind (arith, nat_tests, drop_more, append_assoc)

pub numbered_all : {A B : Type 0} (given : ℕ → A → List B) (number : ℕ) (items : List A) (i : ℕ) (out whole : List B)
    → out ++ numbered given number (drop i items) ≡ whole → length items ≤ i → out ≡ whole
unfolding numbered
numbered_all given number items i out whole kept past = grind (arith, nat_tests, drop_of_length-le, append-nil)

-- only what each item gives counts
pub numbered_same : {A B : Type 0} (given others : ℕ → A → List B) (number : ℕ) (items : List A)
    → ((n : ℕ) (item : A) → given n item ≡ others n item)
    → numbered given number items ≡ numbered others number items
unfolding numbered
numbered_same given others number [] same = refl
numbered_same given others number (item ∷ items) same =
    rw (same number item, numbered_same given others (number + 1) items same) refl
