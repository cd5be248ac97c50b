-- What a search among the places in order of their names has found.
use Rattle.kob_ordered.proofs.Words.{Hole, Less, None, named, nat_list_cmp_total, option_map, slice_get-map, ◌-◌, inl, inr, nat_tests, Bool, Entry, Equal, Err, IfErr, IfOk, IsBinarySearchResult, IsGap, IsNonDecreasingBy, IsSearchInRange, IsSound, List, Nth, Ok, Option, Ordering, Result, Slot, Some, ap, arith, cases_lt, entries_in, false, get_or, get_or_from_slice_get, is_ok, is_some, length, lookup, name_order, names_in, order_of, ordering_index, refl, same_text, slice_get, slice_get-get_or, slice_get_within, sym, true, ℕ, ◌<◌, ◌∙◌, ◌≡◌}
use Rattle.kob_ordered.proofs.Listed.{equal_from_order, not_before_itself, rises, turned}
use Rattle.kob_ordered.proofs.Places.{entry_at, stands_in}
use Rattle.kob_ordered.proofs.Sound.{value_at}

module _ {V : Type 0} (slots : List (Slot V)) (by_name : List ℕ) (name : List ℕ) (sound : IsSound slots by_name) where
  abbrev names : List (Option (List ℕ))
  names = names_in slots

  abbrev compared : ℕ → Ordering
  compared place = order_of name (slice_get slots place)

  compared_at : (k d : ℕ) (n : List ℕ) → Nth names by_name n k → compared (get_or by_name k d) ≡ name_order n name
  compared_at k d n nth =
      ap compared (get_or_from_slice_get by_name k nth.place d nth.listed)
      ∙ ap (order_of name) (entry_at slots nth.place n nth.stands).1

  nth_of : (k : ℕ) → k < length by_name → (n : List ℕ) × Nth names by_name n k
  nth_of k lt =
      let listed = slice_get-get_or by_name k 0 lt in grind (arith, nat_tests)

  non_decreasing : IsNonDecreasingBy (λ place. ordering_index (compared place)) by_name
  non_decreasing i j d le lt =
      let (n, a) = nth_of i (omega (arith, le, lt)) in let (m, b) = nth_of j lt in
      let at = compared_at i d n a in let past = compared_at j d m b in
      grind (arith, cases_lt i j, rises n m name, sound.listed.rising i j n m)

  here : (i : ℕ) → i < length by_name → ((d : ℕ) → compared (get_or by_name i d) ≡ Equal) → Nth names by_name name i
  here i lt equal =
      let (n, nth) = nth_of i lt in grind (arith, compared_at i 0 n nth, equal 0, equal_from_order n name)

  pub no_entry : (i : ℕ) → IsGap names by_name name i → is_some (lookup (same_text name) (entries_in slots)) ≡ false
  no_entry i gap = by (is_some (lookup (same_text name) (entries_in slots))) refl
    where
      by : (b : Bool) → is_some (lookup (same_text name) (entries_in slots)) ≡ b → b ≡ false
      by false is = refl
      by true is =
          let (place, stands) = stands_in name slots is in let (k, listed) = sound.listed.all place name stands in
          let nth : Nth names by_name name k = record { place = place; listed = listed; stands = stands } in
          grind (arith, cases_lt k i, not_before_itself name, gap.before k name, gap.after k name)

  pub found_by : (r : Result ℕ ℕ) → IsSearchInRange r (length by_name)
      → IsBinarySearchResult (λ place. order_of name (slice_get slots place)) by_name r
      → IfOk r (Nth (names_in slots) by_name name) × IfErr r (IsGap (names_in slots) by_name name)
      × (is_ok r ≡ is_some (lookup (same_text name) (entries_in slots)))
  found_by (Ok i) lt equal =
      let at = here i lt equal in let (value, there) = entry_at slots at.place name at.stands in
      (at, tt, sym (ap is_some (value_at slots by_name sound name at.place value there)))
  found_by (Err i) le parts = let gap = between in (tt, gap, sym (no_entry i gap))
    where
      between : IsGap names by_name name i
      between = record {
        within = le;
        before = λ k n lt nth. sym (compared_at k 0 n nth) ∙ (parts non_decreasing).0 k 0 (omega arith) lt;
        after = λ k n past nth. turned n name (sym (compared_at k 0 n nth)
            ∙ (parts non_decreasing).1 k 0 past (slice_get_within by_name k nth.place nth.listed));
      }

  -- a name after the last of those that are listed
  pub gap_after : (place : ℕ) → 0 < length by_name → place ≡ get_or by_name (length by_name - 1) place
      → order_of name (slice_get slots place) ≡ Less → IsGap (names_in slots) by_name name (length by_name)
  gap_after place some is less =
      let end = length by_name - 1 in let (m, last) = nth_of end (omega (arith, some)) in
      let at : name_order m name ≡ Less = sym (compared_at end place m last) ∙ ap compared (sym is) ∙ less in record {
        within = omega arith;
        before = λ k n lt nth. elim (cases_lt k end) [
          | inl earlier ↦ nat_list_cmp_total.trans n m name (sound.listed.rising k end n m earlier nth last) at
          | inr same ↦ grind (arith, compared_at k place n nth)
        ];
        after = λ k n past nth. absurd (omega (arith, slice_get_within by_name k nth.place nth.listed, past));
      }

  -- a place whose name compares equal is that of the name
  pub equal_at : (place : ℕ) → order_of name (slice_get slots place) ≡ Equal
      → (slice_get (names_in slots) place ≡ Some (Some name))
      × (is_some (lookup (same_text name) (entries_in slots)) ≡ true)
  equal_at place equal =
      let stands = slice_get-map named slots place ∙ by (slice_get slots place) equal in
      let (value, there) = entry_at slots place name stands in
      (stands, ap is_some (value_at slots by_name sound name place value there))
    where
      by : (o : Option (Slot V)) → order_of name o ≡ Equal → option_map named o ≡ Some (Some name)
      by None is = cc
      by (Some Hole) is = cc
      by (Some (Entry other value)) is = ap (λ n. Some (Some n)) (equal_from_order other name is)

  -- the first of the names that are listed
  pub first_is : (place : ℕ) → 0 < length by_name → place ≡ get_or by_name 0 place
      → slice_get (names_in slots) place ≡ Some (Some name) → Nth (names_in slots) by_name name 0
  first_is place some is stands = record {
    place = place;
    listed = slice_get-get_or by_name 0 place some ∙ ap Some (sym is);
    stands = stands;
  }

-- the place that is taken out at an index that was found
pub record Taken {V : Type 0} (slots : List (Slot V)) (by_name : List ℕ) (name : List ℕ) (i place : ℕ) : Type 0 where
  pub value : V
  pub listed : slice_get by_name i ≡ Some place
  pub there : slice_get slots place ≡ Some (Entry name value)

pub taken_at : {V : Type 0} {slots read : List (Slot V)} {by_name names name : List ℕ} {i place : ℕ} → read ≡ slots
    → names ≡ by_name → Nth (names_in read) names name i → place ≡ get_or by_name i place
    → Taken slots by_name name i place
taken_at {V} {slots} {read} {by_name} {names} {name} {i} {place} same_slots same_names at is =
    let (value, there) = entry_at read at.place name at.stands in grind (arith, nat_tests, get_or_from_slice_get)
