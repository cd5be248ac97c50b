-- An element by its place after an edit.
use Rattle.kob_ordered.proofs.Words.{List, Some, [], arith, cond, insert, length, ltb, nat_tests, option_map, refl, remove, set, slice_get, suc, zero, ℕ, ◌++◌, ◌+◌, ◌-◌, ◌==◌, ◌∷◌, ◌≡◌, ◌≤◌, Equal, Greater, Less, ap, is_eq, is_eq-slice_cmp, name_order, nat_list_cmp_total, ordering_index, ordering_reverse, sym, ◌∙◌, AreListed, IsGap, None, Nth, Option, cases_lt, inl, inr, slice_get_within, ◌<◌, ◌⊎◌}
use Rattle.kob_ordered.proofs.Places.{equal_names, same_name}

module _ {X : Type 0} where
  pub get_push : (xs : List X) (y : X) (k : ℕ) → slice_get (xs ++ y ∷ []) k ≡ cond (k == length xs) (Some y) (slice_get xs k)
  get_push [] y zero = refl
  get_push [] y (suc k) = grind (arith, nat_tests)
  get_push (x ∷ xs) y zero = grind (arith, nat_tests)
  get_push (x ∷ xs) y (suc k) = grind (arith, nat_tests, get_push xs y k)

  pub get_set : (xs : List X) (p : ℕ) (y : X) (k : ℕ)
      → slice_get (set xs p y) k ≡ cond (k == p) (option_map (λ _. y) (slice_get xs k)) (slice_get xs k)
  get_set [] p y k = grind (arith, nat_tests)
  get_set (x ∷ xs) zero y zero = refl
  get_set (x ∷ xs) zero y (suc k) = grind (arith, nat_tests)
  get_set (x ∷ xs) (suc p) y zero = grind (arith, nat_tests)
  get_set (x ∷ xs) (suc p) y (suc k) = grind (arith, nat_tests, get_set xs p y k)

  pub get_insert : (xs : List X) (i : ℕ) (y : X) (k : ℕ) → i ≤ length xs → slice_get (insert xs i y) k
      ≡ cond (ltb k i) (slice_get xs k) (cond (k == i) (Some y) (slice_get xs (k - 1)))
  get_insert [] i y k le = grind (arith, nat_tests)
  get_insert (x ∷ xs) zero y zero le = refl
  get_insert (x ∷ xs) zero y (suc k) le = grind (arith, nat_tests)
  get_insert (x ∷ xs) (suc i) y zero le = grind (arith, nat_tests)
  get_insert (x ∷ xs) (suc i) y (suc k) le = grind (arith, nat_tests, get_insert xs i y k)

  pub get_remove : (xs : List X) (i k : ℕ) → slice_get (remove xs i) k ≡ cond (ltb k i) (slice_get xs k) (slice_get xs (k + 1))
  get_remove [] zero k = grind (arith, nat_tests)
  get_remove [] (suc i) k = grind (arith, nat_tests)
  get_remove (x ∷ xs) zero k = grind (arith, nat_tests)
  get_remove (x ∷ xs) (suc i) zero = grind (arith, nat_tests)
  get_remove (x ∷ xs) (suc i) (suc k) = grind (arith, nat_tests, get_remove xs i k)

-- How names compare.

pub equal_from_order : (n m : List ℕ) → name_order n m ≡ Equal → n ≡ m
equal_from_order n m is = equal_names n m (sym (is_eq-slice_cmp n m) ∙ ap is_eq is)

pub order_of_equal : (n : List ℕ) → name_order n n ≡ Equal
order_of_equal n = grind (arith, nat_tests, is_eq-slice_cmp n n, same_name n n refl)

pub not_before_itself : (n : List ℕ) → name_order n n ≡ Less → ⊥
not_before_itself n less = let same = order_of_equal n in cc

pub turned : (n m : List ℕ) → name_order n m ≡ Greater → name_order m n ≡ Less
turned n m is = nat_list_cmp_total.antisymm m n ∙ ap ordering_reverse is

-- a later name compares no lower
pub rises : (n m name : List ℕ) → name_order n m ≡ Less
    → ordering_index (name_order n name) ≤ ordering_index (name_order m name)
rises n m name less =
    grind (arith, nat_tests, nat_list_cmp_total.trans n m name less, equal_from_order m name)

-- The places of names in order of the names, after each change.

module _ (names : List (Option (List ℕ))) (by_name : List ℕ) (sound : AreListed names by_name) where
  not_later : (i j place : ℕ) → slice_get by_name i ≡ Some place → slice_get by_name j ≡ Some place → i < j → ⊥
  not_later i j place first second lt =
      let (name, there) = sound.stand i place first in
      not_before_itself name (sound.rising i j name name lt (record { place = place; listed = first; stands = there })
      (record { place = place; listed = second; stands = there }))

  pub only_one : (name : List ℕ) (place other : ℕ) → slice_get names place ≡ Some (Some name)
      → slice_get names other ≡ Some (Some name) → other ≡ place
  only_one name place other there found =
      let (i, a) = sound.all place name there in let (j, b) = sound.all other name found in
      grind (arith, nat_tests, not_before_itself name, sound.rising i j name name, sound.rising j i name name, a, b)

  module _ (name : List ℕ) (i : ℕ) (gap : IsGap names by_name name i) where
    abbrev more : List (Option (List ℕ))
    more = names ++ Some name ∷ []

    abbrev listed : List ℕ
    listed = insert by_name i (length names)

    old : (k p : ℕ) (n : List ℕ) → slice_get by_name k ≡ Some p → slice_get more p ≡ Some (Some n)
        → slice_get names p ≡ Some (Some n)
    old k p n at there = grind (arith, nat_tests, get_push, slice_get_within, not_later, only_one)

    -- the entry that is k-th now was there before, or is the new one
    came : (k : ℕ) (n : List ℕ) → Nth more listed n k → ((k < i) × Nth names by_name n k)
        ⊎ (((k ≡ i) × (n ≡ name)) ⊎ ((i < k) × Nth names by_name n (k - 1)))
    came k n nth = grind (arith, nat_tests, get_insert, old, get_push, not_later, only_one)

    pub listed_pushed : AreListed (names ++ Some name ∷ []) (insert by_name i (length names))
    listed_pushed = record {
      rising = λ j k n m lt a b. grind (
        arith,
        came j n a,
        came k m b,
        sound.rising j k n m lt,
        sound.rising j (k - 1) n m,
        sound.rising (j - 1) (k - 1) n m,
        gap.before j n,
        gap.after (k - 1) m,
      );
      stand = λ k p at. grind (arith, nat_tests, get_insert by_name i (length names) k gap.within, get_push names (Some name) p, sound.stand);
      all = λ p n there. elim (cases_lt p (length names)) [
        | inl lt ↦
            let (k, at) = sound.all p n (grind (arith, nat_tests, get_push names (Some name) p)) in
            elim (cases_lt k i) [
              | inl before ↦ (k, grind (arith, nat_tests, get_insert by_name i (length names) k gap.within))
              | inr after ↦ (k + 1, grind (arith, nat_tests, get_insert by_name i (length names) (k + 1) gap.within))
            ]
        | inr past ↦ (i, grind (arith, nat_tests, get_insert by_name i (length names) i gap.within, get_push names (Some name) p, slice_get_within names p))
      ];
    }

  -- the entry of a place that is listed goes
  module _ (name : List ℕ) (i place : ℕ) (at : slice_get by_name i ≡ Some place)
      (there : slice_get names place ≡ Some (Some name)) where
    abbrev holed : List (Option (List ℕ))
    holed = set names place None

    left : (k : ℕ) (n : List ℕ) → Nth holed (remove by_name i) n k
        → ((k < i) × Nth names by_name n k) ⊎ ((i ≤ k) × Nth names by_name n (k + 1))
    left k n nth = grind (arith, nat_tests, get_remove by_name i k, get_set names place None nth.place)

    pub listed_holed : AreListed (set names place None) (remove by_name i)
    listed_holed = record {
      rising = λ j k n m lt a b. grind (arith, left j n a, left k m b, sound.rising j k n m lt, sound.rising j (k + 1) n m, sound.rising (j + 1) (k + 1) n m);
      stand = λ k p found. grind (arith, nat_tests, get_remove by_name i k, get_set names place None p, sound.stand, not_later i (k + 1) place, not_later k i place);
      all = λ p n found.
          let (k, listed) = sound.all p n (grind (arith, nat_tests, get_set names place None p)) in
          elim (cases_lt k i) [
            | inl before ↦ (k, grind (arith, nat_tests, get_remove by_name i k))
            | inr after ↦ (k - 1, grind (arith, nat_tests, get_remove by_name i (k - 1), get_set names place None p))
          ];
    }
