-- The first line of which something is so, among those that are left.
use Rattle.std.proofs.Common.{Bool, List, None, Option, Some, arith, drop, ap, drop_of_length-le, false, get_or, length, map, sym, take, true, ℕ, ◌+◌, ◌++◌, ◌<◌, ◌∙◌, ◌≡◌, ◌≤◌}
use Rattle.std.proofs.lemmas.Bool.Decides.{nat_tests}
use Rattle.std.proofs.lemmas.List.{drop_more, length-map, map-append, take-map, take_all}
use Rattle.std.proofs.lemmas.Option.{slice_get-map}
use Rattle.std.specs.List.{slice_get}
use Rattle.std.specs.Option.{option_map}
use Rattle.kob_mistakes.specs.Lines.{line_where}

pub goes_on : {X : Type 0} (view : X → List ℕ) (is_so : List ℕ → Bool) (number : ℕ) (lines : List X) (i : ℕ) (d x : X)
    (found : Option ℕ) → line_where is_so number (map view (drop i lines)) ≡ found → i < length lines
    → x ≡ get_or lines i d → is_so (view x) ≡ false
    → line_where is_so (number + 1) (map view (drop (i + 1) lines)) ≡ found
unfolding line_where
goes_on view is_so number lines i d x found kept below is not_so = grind (arith, nat_tests, drop_more)

pub stops : {X : Type 0} (view : X → List ℕ) (is_so : List ℕ → Bool) (number : ℕ) (lines : List X) (i : ℕ) (d x : X)
    (found : Option ℕ) → line_where is_so number (map view (drop i lines)) ≡ found → i < length lines
    → x ≡ get_or lines i d → is_so (view x) ≡ true → Some number ≡ found
unfolding line_where
stops view is_so number lines i d x found kept below is so = grind (arith, nat_tests, drop_more)

pub ends : {X : Type 0} (view : X → List ℕ) (is_so : List ℕ → Bool) (number : ℕ) (lines : List X) (i : ℕ)
    (found : Option ℕ) → line_where is_so number (map view (drop i lines)) ≡ found → length lines ≤ i → None ≡ found
unfolding line_where
ends view is_so number lines i found kept past = grind (arith, nat_tests, drop_of_length-le)

-- a word of lines that are lent
pub lent_at : {A B : Type 0} (view : A → B) (items : List A) (place : ℕ)
    → slice_get (map view items) place ≡ option_map view (slice_get items place)
lent_at view items place = slice_get-map view items place

pub lent_length : {A B : Type 0} (view : A → B) (items : List A) → length (map view items) ≡ length items
lent_length view items = length-map items view

-- lines that are lent
pub lent_before : {A B : Type 0} (view : A → B) (items : List A) (count : ℕ)
    → map view (take count items) ≡ take count (map view items)
lent_before view items count = sym (take-map view count items)

pub lent_whole : {A B : Type 0} (view : A → B) (items : List A) (count : ℕ) → length items ≤ count
    → map view items ≡ take count (map view items)
lent_whole view items count most = sym (take-map view count items ∙ ap (map view) (take_all count items most))

pub lent_more : {A B : Type 0} (view : A → B) (items more : List A)
    → map view (items ++ more) ≡ map view items ++ map view more
lent_more view items more = map-append view items more
