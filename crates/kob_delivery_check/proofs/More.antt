-- What one item more adds to what a loop has made.
use Rattle.std.proofs.Common.{Bool, List, Some, [], ap, cond, false, get_or, length, map, refl, sym, take, true, ℕ, ◌++◌, ◌+◌, ◌<◌, ◌==◌, ◌&&◌, ◌||◌, ◌∙◌, ◌∷◌, ◌≡◌}
use Rattle.std.proofs.lemmas.List.{flat_map_more, map-append, take_more}
use Rattle.std.proofs.lemmas.List.Elements.{filter-append}
use Rattle.std.proofs.lemmas.List.Sums.{fold_more}
use Rattle.std.proofs.lemmas.List.Folds.{list_any-append}
use Rattle.std.proofs.lemmas.Option.{get_or_from_slice_get}
use Rattle.std.specs.List.{filter, flat_map, fold, list_any}
use Rattle.std.specs.Prelude.{not, slice_get}

-- to a fold
pub fold_to : {A B : Type 0} (f : B → A → B) (from : B) (xs : List A) (k : ℕ) (x : A) (mid now : B)
    → k < length xs → slice_get xs k ≡ Some x → mid ≡ fold f from (take k xs) → now ≡ f mid x
    → now ≡ fold f from (take (k + 1) xs)
fold_to f from xs k x mid now below is so_far more =
    more ∙ ap (λ y. f y x) so_far ∙ ap (f (fold f from (take k xs))) (sym (get_or_from_slice_get xs k x x is))
    ∙ sym (fold_more f from xs k x below)

next : {A : Type 0} (xs : List A) (k : ℕ) (x : A) → k < length xs → x ≡ get_or xs k x
    → take (k + 1) xs ≡ take k xs ++ x ∷ []
next xs k x below is = take_more xs k x below ∙ ap (λ y. take k xs ++ y ∷ []) (sym is)

either : (was one : Bool) → cond one true was ≡ (was || (one || false))
either true true = refl
either true false = refl
either false true = refl
either false false = refl

-- to the numbers of a set
pub number_to : {A : Type 0} (f : A → ℕ) (xs : List A) (k : ℕ) (x : A) (id other : ℕ) (was is : Bool) → k < length xs
    → x ≡ get_or xs k x → id ≡ f x → is ≡ cond (id == other) true was
    → was ≡ list_any (λ y. f y == other) (take k xs) → is ≡ list_any (λ y. f y == other) (take (k + 1) xs)
number_to f xs k x id other was is below at_k named now so_far =
    now ∙ ap (λ n. cond (n == other) true was) named ∙ ap (cond (f x == other) true) so_far
    ∙ either (list_any (λ y. f y == other) (take k xs)) (f x == other)
    ∙ sym (list_any-append (λ y. f y == other) (take k xs) (x ∷ []))
    ∙ ap (list_any (λ y. f y == other)) (sym (next xs k x below at_k))

either_in : (was one out : Bool) → cond out was (cond one true was) ≡ (was || ((one && not out) || false))
either_in true true true = refl
either_in true true false = refl
either_in true false true = refl
either_in true false false = refl
either_in false true true = refl
either_in false true false = refl
either_in false false true = refl
either_in false false false = refl

-- to the numbers of a set that leaves some items out
pub number_in : {A : Type 0} (f : A → ℕ) (p : A → Bool) (xs : List A) (k : ℕ) (x : A) (id other : ℕ) (out was is : Bool)
    → k < length xs → x ≡ get_or xs k x → id ≡ f x → out ≡ p x
    → is ≡ cond out was (cond (id == other) true was)
    → was ≡ list_any (λ y. f y == other && not (p y)) (take k xs)
    → is ≡ list_any (λ y. f y == other && not (p y)) (take (k + 1) xs)
number_in f p xs k x id other out was is below at_k named left now so_far =
    now ∙ ap (λ n. cond out was (cond (n == other) true was)) named
    ∙ ap (λ o. cond o was (cond (f x == other) true was)) left
    ∙ ap (λ w. cond (p x) w (cond (f x == other) true w)) so_far
    ∙ either_in (list_any (λ y. f y == other && not (p y)) (take k xs)) (f x == other) (p x)
    ∙ sym (list_any-append (λ y. f y == other && not (p y)) (take k xs) (x ∷ []))
    ∙ ap (list_any (λ y. f y == other && not (p y))) (sym (next xs k x below at_k))

-- to a list that is made of two maps
pub mapped_to : {A B C : Type 0} (f : B → C) (g : A → B) (xs : List A) (k : ℕ) (x : A) (y : C) (mid now : List C)
    → k < length xs → x ≡ get_or xs k x → y ≡ f (g x) → mid ≡ map f (map g (take k xs)) → now ≡ mid ++ y ∷ []
    → now ≡ map f (map g (take (k + 1) xs))
mapped_to f g xs k x y mid now below is made so_far more =
    more ∙ ap (λ ys. ys ++ y ∷ []) so_far ∙ ap (λ z. map f (map g (take k xs)) ++ z ∷ []) made
    ∙ sym (ap (λ zs. map f (map g zs)) (next xs k x below is) ∙ ap (map f) (map-append g (take k xs) (x ∷ []))
    ∙ map-append f (map g (take k xs)) (g x ∷ []))

-- to the parts of the items of a list
pub parts_to : {A B : Type 0} (part : A → List B) (xs : List A) (k : ℕ) (x : A) (held mid now : List B) → k < length xs
    → slice_get xs k ≡ Some x → mid ≡ held ++ flat_map part (take k xs) → now ≡ mid ++ part x
    → now ≡ held ++ flat_map part (take (k + 1) xs)
parts_to part xs k x held mid now below is so_far more =
    more ∙ ap (λ ys. ys ++ part x) so_far ∙ flat_map_more part held (take k xs) x
    ∙ ap (λ zs. held ++ flat_map part zs) (sym (next xs k x below (sym (get_or_from_slice_get xs k x x is))))

one_kept : {A B : Type 0} (g : A → B) (x : A) (test : Bool) → map g (cond test (x ∷ []) []) ≡ cond test (g x ∷ []) []
one_kept g x true = refl
one_kept g x false = refl

-- to the items of a list that pass a test
pub kept_to : {A B : Type 0} (p : B → Bool) (g : A → B) (xs : List A) (k : ℕ) (x : A) (test : Bool) (mid now : List A)
    → k < length xs → x ≡ get_or xs k x → test ≡ p (g x) → map g mid ≡ filter p (map g (take k xs))
    → now ≡ mid ++ cond test (x ∷ []) [] → map g now ≡ filter p (map g (take (k + 1) xs))
kept_to p g xs k x test mid now below is passes so_far more =
    ap (map g) more ∙ map-append g mid (cond test (x ∷ []) []) ∙ ap (λ ys. ys ++ map g (cond test (x ∷ []) [])) so_far
    ∙ ap (λ zs. filter p (map g (take k xs)) ++ zs)
    (one_kept g x test ∙ ap (λ b. cond b (g x ∷ []) []) passes)
    ∙ sym (filter-append p (map g (take k xs)) (g x ∷ []))
    ∙ ap (filter p) (sym (ap (map g) (next xs k x below is) ∙ map-append g (take k xs) (x ∷ [])))

-- to the parts of the items of a mapped list
pub mapped_parts_to : {A B C : Type 0} (part : B → List C) (g : A → B) (xs : List A) (k : ℕ) (x : A)
    (held mid now : List C) → k < length xs → x ≡ get_or xs k x → mid ≡ held ++ flat_map part (map g (take k xs))
    → now ≡ mid ++ part (g x) → now ≡ held ++ flat_map part (map g (take (k + 1) xs))
mapped_parts_to part g xs k x held mid now below is so_far more =
    more ∙ ap (λ ys. ys ++ part (g x)) so_far ∙ flat_map_more part held (map g (take k xs)) (g x)
    ∙ ap (λ zs. held ++ flat_map part zs)
    (sym (ap (map g) (next xs k x below is) ∙ map-append g (take k xs) (x ∷ [])))
