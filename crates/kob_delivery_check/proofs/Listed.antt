-- A list that is made of the items of another, each with its index.
use Rattle.std.proofs.Common.{List, [], ap, append_assoc, arith, get_or, length, sym, take, ℕ, ◌++◌, ◌+◌, ◌<◌, ◌∙◌, ◌∷◌, ◌≡◌, ◌≤◌}
use Rattle.std.proofs.lemmas.List.{length-take-le, take_more}
use Rattle.std.proofs.lemmas.List.{flat_map_more}
use Rattle.std.specs.List.{enumerate_from, flat_map}

abbrev numbered : {A : Type 0} → A → ℕ → List (ℕ × A)
numbered x n = (n, x) ∷ []

-- one item more has the next index
enumerate_behind : {A : Type 0} (n : ℕ) (xs : List A) (x : A)
    → enumerate_from n (xs ++ x ∷ []) ≡ enumerate_from n xs ++ numbered x (n + length xs)
enumerate_behind n [] x =
    let same : n ≡ n + 0 = omega arith in
    ap (numbered x) same
enumerate_behind {A} n (y ∷ ys) x =
    let same : n + 1 + length ys ≡ n + length (y ∷ ys) = omega arith in
    ap (λ (zs : List (ℕ × A)). (n, y) ∷ zs)
    (enumerate_behind (n + 1) ys x ∙ ap (λ m. enumerate_from (n + 1) ys ++ numbered x m) same)

-- what it adds
part_more : {A B : Type 0} (part : ℕ × A → List B) (before : List A) (x : A) (k : ℕ) → length before ≡ k
    → flat_map part (enumerate_from 0 (before ++ x ∷ []))
    ≡ flat_map part (enumerate_from 0 before) ++ part (k, x)
part_more {A} part before x k counted =
    let same : 0 + length before ≡ k = omega (arith, counted) in
    ap (λ (zs : List (ℕ × A)). flat_map part zs) (enumerate_behind 0 before x)
    ∙ sym (flat_map_more part [] (enumerate_from 0 before) (0 + length before, x))
    ∙ ap (λ (m : ℕ). flat_map part (enumerate_from 0 before) ++ part (m, x)) same

-- one step of a loop over the items
pub item_more : {A B : Type 0} (part : ℕ × A → List B) (items : List A) (k : ℕ) (x : A) (held mid now : List B)
    → k < length items → x ≡ get_or items k x
    → mid ≡ held ++ flat_map part (enumerate_from 0 (take k items)) → now ≡ mid ++ part (k, x)
    → now ≡ held ++ flat_map part (enumerate_from 0 (take (k + 1) items))
item_more part items k x held mid now below is so_far more =
    let within : k ≤ length items = omega (arith, below) in
    let next = take_more items k x below ∙ ap (λ e. take k items ++ e ∷ []) (sym is) in
    more ∙ ap (λ xs. xs ++ part (k, x)) so_far
    ∙ append_assoc held (flat_map part (enumerate_from 0 (take k items))) (part (k, x))
    ∙ ap (λ xs. held ++ xs)
    (sym (ap (λ xs. flat_map part (enumerate_from 0 xs)) next
    ∙ part_more part (take k items) x k (length-take-le k items within)))
