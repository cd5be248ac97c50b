-- The first item of a list that is so.
use Rattle.std.proofs.Common.{Bool, List, None, Some, [], ap, arith, false, get_or, length, sym, take, true, zero, suc, ℕ, ◌++◌, ◌+◌, ◌<◌, ◌∙◌, ◌∷◌, ◌≡◌}
use Rattle.std.proofs.lemmas.Grind.{common_steps}
use Rattle.std.proofs.lemmas.List.{take_more}
use Rattle.std.proofs.lemmas.List.Folds.{find-append}
use Rattle.std.specs.List.{find}

-- none before it, and it is
pub found_at : {A : Type 0} (p : A → Bool) (xs : List A) (k : ℕ) (x : A) → k < length xs → x ≡ get_or xs k x
    → find p (take k xs) ≡ None → p x ≡ true → find p xs ≡ Some x
found_at p [] k x below is none so = grind (arith, common_steps)
found_at p (y ∷ ys) zero x below is none so = grind (arith, common_steps)
found_at p (y ∷ ys) (suc k) x below is none so = grind (arith, common_steps, found_at p ys k x)

-- none before it, nor it
pub none_more : {A : Type 0} (p : A → Bool) (xs : List A) (k : ℕ) (x : A) → k < length xs → x ≡ get_or xs k x
    → find p (take k xs) ≡ None → p x ≡ false → find p (take (k + 1) xs) ≡ None
none_more p xs k x below is none so =
    let whole = ap (find p) (take_more xs k x below ∙ ap (λ y. take k xs ++ y ∷ []) (sym is))
    ∙ find-append p (take k xs) (x ∷ []) in
    grind (arith, common_steps, whole)
