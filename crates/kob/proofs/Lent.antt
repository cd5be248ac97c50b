-- Words of a line that are lent, before a place and from it on.
use Rattle.std.proofs.Common.{List, [], ap, drop, drop_of_length-le, length, map, sym, take, ℕ, ◌∙◌, ◌≡◌, ◌≤◌}
use Rattle.std.proofs.lemmas.List.{drop-map, take-map, take_all}

pub whole : (word : List ℕ) (most : ℕ) → length word ≤ most → word ≡ take most word
whole word most less = sym (take_all most word less)

pub lent_before : {A B : Type 0} (view : A → B) (items : List A) (count : ℕ)
    → map view (take count items) ≡ take count (map view items)
lent_before view items count = sym (take-map view count items)

pub lent_whole : {A B : Type 0} (view : A → B) (items : List A) (count : ℕ) → length items ≤ count
    → map view items ≡ take count (map view items)
lent_whole view items count most = sym (take-map view count items ∙ ap (map view) (take_all count items most))

pub lent_from : {A B : Type 0} (view : A → B) (items : List A) (count : ℕ)
    → map view (drop count items) ≡ drop count (map view items)
lent_from view items count = sym (drop-map view count items)

pub lent_none : {A B : Type 0} (view : A → B) (items : List A) (count : ℕ) → length items ≤ count
    → [] ≡ drop count (map view items)
lent_none view items count most =
    sym (drop-map view count items ∙ ap (map view) (drop_of_length-le items most))
