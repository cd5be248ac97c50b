use Rattle.std.proofs.Common.{◌≡◌, ◌∙◌, ◌++◌, ◌∷◌, ◌+◌, [], ℕ, List, Bool, ap, sym, find, take}
use Rattle.std.specs.Option.{option_or}
use Rattle.std.proofs.Math.ListN.{drop}
use Rattle.std.specs.Prelude.{Some, None, cond}
use Rattle.std.proofs.lemmas.List.{take-append-drop}
use Rattle.std.proofs.lemmas.List.Folds.{find-append}

-- the first element among the places that were looked at, and the next one
pub find_more : {X : Type 0} (p : X → Bool) (xs : List X) (i : ℕ) (x : X)
    → find p (take i xs) ≡ None → take (i + 1) xs ≡ take i xs ++ x ∷ []
    → find p (take (i + 1) xs) ≡ cond (p x) (Some x) None
find_more p xs i x none more =
    ap (find p) more ∙ find-append p (take i xs) (x ∷ [])
    ∙ ap (λ o. option_or o (find p (x ∷ []))) none

pub find_first : {X : Type 0} (p : X → Bool) (xs : List X) (i : ℕ) (x : X)
    → find p (take (i + 1) xs) ≡ Some x → find p xs ≡ Some x
find_first p xs i x found =
    ap (find p) (sym (take-append-drop (i + 1) xs)) ∙ find-append p (take (i + 1) xs) (drop (i + 1) xs)
    ∙ ap (λ o. option_or o (find p (drop (i + 1) xs))) found
