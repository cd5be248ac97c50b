-- Lemmas on lists and places.
use Rattle.kob_delivery.proofs.Words.{All-contains, All-filter, All-from_recursion, AllByRecursion, Bool, Contains, Contains-append_left, IsPrefixOf, List, None, Option, Place, Some, [], and_from, and_parts, ap, append-nil, append_assoc, arith, bytes_eq, cases_Bool, cond, cons_option, drop, eq-eqb, eqb-true, false, filter, filter-append, filter_map, filter_map-append, filter_passes, firsts, fold, fold-append, get_or-range_with_len, get_or_from_slice_get, inl, inr, length-range_with_len, list_any, list_any-append, map, max, nat_eq, nat_list_eq_equiv, nat_lt, nat_tests, option_and_then, range_with_len, recursion_from_All, refl, same_place, slice_get, slice_get-append_left, slice_get_within, suc, sym, take, take-append-drop, true, with_new, zero, ℕ, ◌&&◌, ◌++◌, ◌+◌, ◌<◌, ◌||◌, ◌∙◌, ◌∷◌, ◌≡◌, ◌≤◌, ◌⊎◌}
use Rattle.std.specs.List.{IsDistinct}
use Rattle.std.proofs.lemmas.Slice.Eq.{bytes_eq-Decides}
use Rattle.std.proofs.lemmas.Map.Keys.{IsDistinct-push}
use Rattle.std.proofs.lemmas.Map.Views.{any-filter_same}

pub same_bytes : (xs : List ℕ) → bytes_eq xs xs ≡ true
same_bytes xs = (bytes_eq-Decides xs xs).1 refl

pub bytes_are : (xs ys : List ℕ) → bytes_eq xs ys ≡ true → xs ≡ ys
bytes_are xs ys = (bytes_eq-Decides xs ys).0

-- the test of equality doesn't tell its two sides apart
pub bytes_turned : (xs ys : List ℕ) → bytes_eq xs ys ≡ bytes_eq ys xs
bytes_turned = nat_list_eq_equiv.symm

pub same_here : (q : Place) → same_place q q ≡ true
same_here q = and_from _ _ (same_bytes q.topic) (eq-eqb q.partition q.partition refl)

pub places_are : (p q : Place) → same_place p q ≡ true → p ≡ q
places_are p q h = let parts = and_parts _ _ h in let topic : p.topic ≡ q.topic = bytes_are p.topic q.topic parts.0 in let partition : p.partition ≡ q.partition = eqb-true p.partition q.partition parts.1 in grind (arith, nat_tests)

pub place_cases : (p q : Place) → (p ≡ q) ⊎ (same_place p q ≡ false)
place_cases p q = elim (cases_Bool (same_place p q)) [ inl h ↦ inl (places_are p q h) | inr h ↦ inr h ]

pub same_some : {A : Type 0} (a b : A) → Some a ≡ Some b → a ≡ b
same_some a b e = cc

-- what a list begins with
pub first_is : {A : Type 0} (xs : List A) (x : A) → slice_get xs 0 ≡ Some x → (rest : List A) × (xs ≡ x ∷ rest)
first_is [] x h = cc
first_is (y ∷ rest) x h = (rest, cc)

-- what stands in a front
pub get_front : {A : Type 0} (xs ys : List A) (i : ℕ) (x : A) → slice_get xs i ≡ Some x
    → slice_get (xs ++ ys) i ≡ Some x
get_front xs ys i x h = slice_get-append_left xs ys i (slice_get_within xs i x h) ∙ h

pub contains_at : {A : Type 0} (xs : List A) (i : ℕ) (x : A) → slice_get xs i ≡ Some x → Contains xs x
contains_at xs i x h = (i, slice_get_within xs i x h, get_or_from_slice_get xs i x x h)

pub contains_more : {A : Type 0} (xs : List A) (y x : A) → Contains xs x → Contains (y ∷ xs) x
contains_more xs y x (k, l, at) = (suc k, omega arith, at)

-- all of the one list are in the other
pub record AreAmong {A : Type 0} (xs ys : List A) : Type 0 where
  pub each : (x : A) → Contains xs x → Contains ys x

pub among_same : {A : Type 0} (xs : List A) → AreAmong xs xs
among_same xs = record { each = λ x c. c }

pub among_more : {A : Type 0} (xs : List A) (y : A) → AreAmong xs (xs ++ y ∷ [])
among_more xs y = record { each = λ x c. Contains-append_left xs (y ∷ []) x c }

-- a filter after a filter is the one that both make, of what a list contains
pub filter_both : {A : Type 0} (p r s : A → Bool) (xs : List A) → AllByRecursion (λ x. (r x && p x) ≡ s x) xs
    → filter p (filter r xs) ≡ filter s xs
filter_both p r s [] h = refl
filter_both p r s (x ∷ xs) h = grind (arith, nat_tests, filter_both p r s xs h.1, h.0)

-- a filter after a weaker one
pub filter_twice : {A : Type 0} (p r : A → Bool) → ((x : A) → p x ≡ true → r x ≡ true) → (xs : List A)
    → filter p (filter r xs) ≡ filter p xs
filter_twice p r h [] = refl
filter_twice p r h (x ∷ xs) = grind (arith, nat_tests, filter_twice p r h xs, h x)

pub filter_all : {A : Type 0} (p : A → Bool) (xs : List A) → AllByRecursion (λ x. p x ≡ true) xs → filter p xs ≡ xs
filter_all p [] h = refl
filter_all p (x ∷ xs) h = grind (arith, nat_tests, filter_all p xs h.1, h.0)

pub filter_map_turned : {A B : Type 0} (f : A → B) (test : B → Bool) (xs : List A)
    → filter test (map f xs) ≡ map f (filter (λ x. test (f x)) xs)
filter_map_turned f test [] = refl
filter_map_turned f test (x ∷ xs) = grind (arith, nat_tests, filter_map_turned f test xs)

-- a test that fails on all fails on what a filter keeps
pub none_in_filter : {A B : Type 0} (t : B → Bool) (f : A → B) (p : A → Bool) (xs : List A)
    → list_any t (map f xs) ≡ false → list_any t (map f (filter p xs)) ≡ false
none_in_filter t f p [] h = refl
none_in_filter t f p (x ∷ xs) h = grind (arith, nat_tests, none_in_filter t f p xs)

pub and_as : (x p : Bool) → (p ≡ true → x ≡ true) → (x && p) ≡ p
and_as x p h = grind (arith, nat_tests, h)

pub any_last : {A : Type 0} (t : A → Bool) (xs : List A) (x : A) → t x ≡ true → list_any t (xs ++ x ∷ []) ≡ true
any_last t xs x h = grind (arith, nat_tests, list_any-append)

-- the same test on all elements
pub any_same : {A : Type 0} (s t : A → Bool) → ((x : A) → s x ≡ t x) → (xs : List A) → list_any s xs ≡ list_any t xs
any_same s t h [] = refl
any_same s t h (x ∷ xs) = grind (arith, nat_tests, h x, any_same s t h xs)

pub all_append : {A : Type 0} (P : A → Type 0) (xs ys : List A) → AllByRecursion P xs → AllByRecursion P ys
    → AllByRecursion P (xs ++ ys)
all_append P [] ys h k = k
all_append P (x ∷ xs) ys h k = (h.0, all_append P xs ys h.1 k)

pub all_last : {A : Type 0} (P : A → Type 0) (xs : List A) (x : A) → AllByRecursion P xs → P x
    → AllByRecursion P (xs ++ x ∷ [])
all_last P xs x h p = all_append P xs (x ∷ []) h (p, tt)

pub all_weaker : {A : Type 0} (P R : A → Type 0) → ((x : A) → P x → R x) → (xs : List A) → AllByRecursion P xs
    → AllByRecursion R xs
all_weaker P R f [] h = tt
all_weaker P R f (x ∷ xs) h = (f x h.0, all_weaker P R f xs h.1)

pub all_both : {A : Type 0} (P R : A → Type 0) (xs : List A) → AllByRecursion P xs → AllByRecursion R xs
    → AllByRecursion (λ x. P x × R x) xs
all_both P R [] h k = tt
all_both P R (x ∷ xs) h k = ((h.0, k.0), all_both P R xs h.1 k.1)

-- what holds of all holds of what a filter keeps, and that passes
pub all_passing : {A : Type 0} (P : A → Type 0) (test : A → Bool) (xs : List A) → AllByRecursion P xs
    → AllByRecursion (λ x. P x × (test x ≡ true)) (filter test xs)
all_passing P test xs h =
    all_both P (λ x. test x ≡ true) (filter test xs)
    (recursion_from_All P (filter test xs) (All-filter test P xs (All-from_recursion P xs h)))
    (recursion_from_All (λ x. test x ≡ true) (filter test xs) (filter_passes test xs))

pub all_in : {A : Type 0} (P : A → Type 0) (xs : List A) (x : A) → Contains xs x → AllByRecursion P xs → P x
all_in P xs x c h = All-contains P xs x (All-from_recursion P xs h) c

pub all_at : {A : Type 0} (P : A → Type 0) (xs : List A) (i : ℕ) (x : A) → slice_get xs i ≡ Some x → AllByRecursion P xs
    → P x
all_at P xs i x e = all_in P xs x (contains_at xs i x e)

-- Lists with each element at its first place, beginnings of lists, and numbers in order.

-- beginnings

pub prefix_filter : {A : Type 0} (test : A → Bool) (xs ys : List A) → IsPrefixOf xs ys
    → IsPrefixOf (filter test xs) (filter test ys)
prefix_filter test xs ys p = (filter test p.0, sym (filter-append test xs p.0) ∙ ap (filter test) p.1)

pub prefix_on : {A : Type 0} (xs ys zs : List A) → IsPrefixOf xs ys → IsPrefixOf ys zs → IsPrefixOf xs zs
prefix_on xs ys zs p q = (p.0 ++ q.0, sym (append_assoc xs p.0 q.0) ∙ ap (λ ws. ws ++ q.0) p.1 ∙ q.1)

-- only new elements are put behind
new_behind : {A : Type 0} (same : A → A → Bool) (xs ys : List A) → IsPrefixOf xs (fold (with_new same) xs ys)
new_behind same xs [] = ([], append-nil xs)
new_behind same xs (y ∷ ys) =
    elim (cases_Bool (list_any (same y) xs)) [
      | inl old ↦ rw old (new_behind same xs ys)
      | inr new ↦
          let (rest, is) = new_behind same (xs ++ y ∷ []) ys in
          rw new (y ∷ rest, sym (append_assoc xs (y ∷ []) rest) ∙ is)
    ]

-- the firsts of a front begin the firsts of all
pub prefix_firsts : {A : Type 0} (same : A → A → Bool) (xs ys : List A)
    → IsPrefixOf (firsts same xs) (firsts same (xs ++ ys))
prefix_firsts same xs ys = rw (fold-append (with_new same) [] xs ys) (new_behind same (firsts same xs) ys)

-- no element is there twice
distinct_each : (xs ys : List (List ℕ)) → IsDistinct bytes_eq xs → IsDistinct bytes_eq (fold (with_new bytes_eq) xs ys)
distinct_each xs [] d = d
distinct_each xs (y ∷ ys) d =
    elim (cases_Bool (list_any (bytes_eq y) xs)) [
      | inl old ↦ rw old (distinct_each xs ys d)
      | inr new ↦ rw new (distinct_each (xs ++ y ∷ []) ys (IsDistinct-push nat_list_eq_equiv xs y d new))
    ]

pub firsts_distinct : (xs : List (List ℕ)) → IsDistinct bytes_eq (firsts bytes_eq xs)
unfolding IsDistinct
firsts_distinct xs = distinct_each [] xs tt

-- filters of firsts

filter_new : (test : List ℕ → Bool) (xs : List (List ℕ)) (y : List ℕ)
    → filter test (with_new bytes_eq xs y) ≡ cond (test y) (with_new bytes_eq (filter test xs) y) (filter test xs)
filter_new test xs y =
    grind (
      arith,
      nat_tests,
      any-filter_same (bytes_eq y) test (test y) (λ x e. ap test (sym (bytes_are y x e))) xs,
      filter-append test xs (y ∷ []),
      append-nil (filter test xs),
    )

filter_each : (test : List ℕ → Bool) (xs ys : List (List ℕ))
    → filter test (fold (with_new bytes_eq) xs ys) ≡ fold (with_new bytes_eq) (filter test xs) (filter test ys)
filter_each test xs [] = refl
filter_each test xs (y ∷ ys) = grind (arith, nat_tests, filter_each test (with_new bytes_eq xs y) ys, filter_new)

pub filter_firsts : (test : List ℕ → Bool) (xs : List (List ℕ))
    → filter test (firsts bytes_eq xs) ≡ firsts bytes_eq (filter test xs)
filter_firsts test = filter_each test []

-- numbers

is_below : (a n k : ℕ) → list_any (nat_eq (a + k)) (range_with_len a n) ≡ nat_lt k n
is_below a zero k = grind (arith, nat_tests)
is_below a (suc n) zero = grind (arith, nat_tests)
is_below a (suc n) (suc k) = let next : a + suc k ≡ a + 1 + k = omega arith in grind (arith, nat_tests, is_below (a + 1) n k, next)

range_more : (a n : ℕ) → range_with_len a n ++ (a + n) ∷ [] ≡ range_with_len a (n + 1)
range_more a zero = grind arith
range_more a (suc n) = grind (arith, range_more (a + 1) n)

-- the numbers from 0 on are those below the next
pub number_there : (n k : ℕ) → k < n → Contains (range_with_len 0 n) k
number_there n k l =
    let same : 0 + k ≡ k = omega arith in
    (k, rw (length-range_with_len 0 n) l, get_or-range_with_len 0 n k k l ∙ same)

pub number_next : (n : ℕ) → range_with_len 0 (n + 1) ≡ range_with_len 0 n ++ n ∷ []
number_next n =
    let same : 0 + n ≡ n = omega arith in
    sym (range_more 0 n) ∙ ap (λ (k : ℕ). range_with_len 0 n ++ k ∷ []) same

pub number_new : (n : ℕ) → Contains (range_with_len 0 n) n → ⊥
number_new n (k, within, at) =
    let l : k < n = rw (length-range_with_len 0 n) at within in
    let same : 0 + k ≡ n = sym (get_or-range_with_len 0 n k n l) ∙ at in
    absurd (omega arith)

new_number : (bound n : ℕ) → n ≤ bound
    → with_new nat_eq (range_with_len 0 bound) n ≡ range_with_len 0 (max bound (n + 1))
new_number bound n within = grind (arith, nat_tests, is_below 0 bound n, range_more 0 bound)

-- numbers that go on from one that is not beyond a bound, after those below it
pub numbers_on : (bound position n : ℕ) → position ≤ bound
    → fold (with_new nat_eq) (range_with_len 0 bound) (range_with_len position n)
    ≡ range_with_len 0 (max bound (position + n))
numbers_on bound position zero within = ap (range_with_len 0) (omega arith)
numbers_on bound position (suc n) within = grind (arith, nat_tests, numbers_on (max bound (position + 1)) (position + 1) n (omega arith), new_number)

-- what keys tell, each at its first place

any_each : (x : List ℕ) (xs ys : List (List ℕ))
    → list_any (bytes_eq x) (fold (with_new bytes_eq) xs ys) ≡ (list_any (bytes_eq x) xs || list_any (bytes_eq x) ys)
any_each x xs [] = grind (arith, nat_tests)
any_each x xs (y ∷ ys) = grind (arith, nat_tests, any_each x (with_new bytes_eq xs y) ys, list_any-append (bytes_eq x) xs (y ∷ []), bytes_are x y)

any_option : (x : List ℕ) (o : Option (List ℕ)) (xs : List (List ℕ)) → list_any (bytes_eq x) xs ≡ true
    → list_any (bytes_eq x) (cons_option o xs) ≡ true
any_option x None xs h = h
any_option x (Some y) xs h = grind (arith, nat_tests)

-- what one of some keys tells is told
any_told : (tell : ℕ → Option (List ℕ)) (ks : List ℕ) (k : ℕ) (id : List ℕ) → list_any (nat_eq k) ks ≡ true
    → tell k ≡ Some id → list_any (bytes_eq id) (filter_map tell ks) ≡ true
any_told tell [] k id is e = cc
any_told tell (x ∷ ks) k id is e = grind (arith, nat_tests, any_told tell ks k id, eqb-true, same_bytes, any_option)

told_again : (tell : ℕ → Option (List ℕ)) (ks : List ℕ) (k : ℕ) (o : Option (List ℕ)) → list_any (nat_eq k) ks ≡ true
    → tell k ≡ o
    → fold (with_new bytes_eq) (firsts bytes_eq (filter_map tell ks)) (cons_option o []) ≡ firsts bytes_eq (filter_map tell ks)
told_again tell ks k None is e = refl
told_again tell ks k (Some id) is e = rw (any_each id [] (filter_map tell ks) ∙ any_told tell ks k id is e) refl

one_then_all : (o : Option (List ℕ)) (xs ids : List (List ℕ))
    → fold (with_new bytes_eq) xs (cons_option o ids)
    ≡ fold (with_new bytes_eq) (fold (with_new bytes_eq) xs (cons_option o [])) ids
one_then_all None xs ids = refl
one_then_all (Some id) xs ids = refl

told_by_each : (tell : ℕ → Option (List ℕ)) (ks more : List ℕ)
    → fold (with_new bytes_eq) (firsts bytes_eq (filter_map tell ks)) (filter_map tell more)
    ≡ firsts bytes_eq (filter_map tell (fold (with_new nat_eq) ks more))
told_by_each tell ks [] = refl
told_by_each tell ks (k ∷ more) = grind (arith, nat_tests, told_by_each tell ks more, told_by_each tell (ks ++ k ∷ []) more, one_then_all, told_again, filter_map-append, fold-append)

pub told_by_firsts : (tell : ℕ → Option (List ℕ)) (ks : List ℕ)
    → firsts bytes_eq (filter_map tell ks) ≡ firsts bytes_eq (filter_map tell (firsts nat_eq ks))
told_by_firsts tell ks = told_by_each tell [] ks

module _ {A : Type 0} (tell : A → Option (List ℕ)) where
  -- what the element at a place tells
  abbrev pub told_at : List A → ℕ → Option (List ℕ)
  told_at xs k = option_and_then tell (slice_get xs k)

  told_after : (x : A) (xs : List A) (a n : ℕ)
      → filter_map (told_at (x ∷ xs)) (range_with_len (suc a) n) ≡ filter_map (told_at xs) (range_with_len a n)
  told_after x xs a zero = refl
  told_after x xs a (suc n) = ap (cons_option (told_at xs a)) (let next : suc a + 1 ≡ suc (a + 1) = omega arith in rw next (told_after x xs (a + 1) n))

  none_told : (a n : ℕ) → filter_map (told_at []) (range_with_len a n) ≡ []
  none_told a zero = refl
  none_told a (suc n) = none_told (a + 1) n

  -- the elements of a front tell what their places tell
  pub told_by_front : (xs : List A) (n : ℕ) → filter_map (told_at xs) (range_with_len 0 n) ≡ filter_map tell (take n xs)
  told_by_front xs zero = refl
  told_by_front [] (suc n) = none_told 0 (suc n)
  told_by_front (x ∷ xs) (suc n) = ap (cons_option (tell x)) (told_after x xs 0 n ∙ told_by_front xs n)

  pub front_begins : (xs : List A) (n : ℕ)
      → IsPrefixOf (firsts bytes_eq (filter_map tell (take n xs))) (firsts bytes_eq (filter_map tell xs))
  front_begins xs n = grind (arith, nat_tests, take-append-drop n xs, filter_map-append tell (take n xs) (drop n xs), prefix_firsts bytes_eq (filter_map tell (take n xs)) (filter_map tell (drop n xs)))
