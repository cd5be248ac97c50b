-- What entries are after a change, and that the names of no two are the same.
use Rattle.kob_ordered.proofs.Words.{All-from_recursion, All-map-remove_entry, AllByRecursion, IsDistinct, IsDistinct-cons, IsDistinct-head, IsDistinct-tail, List, None, Option, Some, [], ap, arith, cond, false, is_some, keys_of, length, lookup, lookup-remove_entry, nat_list_eq_equiv, nat_tests, recursion_from_All, refl, remove_entry, same_text, true, ℕ, ◌+◌, ◌∙◌, ◌∷◌, ◌≡◌, Bool, filter, lookup-filter-keys, map, not, option_map, set_value, sym, Ordered, StandsAt, name_at, subst, unwrap_or}
use Rattle.kob_ordered.proofs.Places.{equal_names}

pub one_name : (name x y : List ℕ) → same_text name x ≡ true → same_text name y ≡ same_text x y
one_name name x y is = ap (λ n. same_text n y) (equal_names name x is)

pub none_of : {X : Type 0} (o : Option X) → is_some o ≡ false → o ≡ None
none_of x0 is = grind (arith, nat_tests)

-- a name that is absent, taken away
pub removed_absent : {V : Type 0} (name : List ℕ) (es : List (List ℕ × V)) → lookup (same_text name) es ≡ None
    → remove_entry (same_text name) es ≡ es
removed_absent name [] none = refl
removed_absent name (e ∷ es) none = grind (arith, nat_tests, removed_absent name es)

-- a name that was taken away
pub gone : {V : Type 0} (name : List ℕ) (es : List (List ℕ × V)) → IsDistinct same_text (keys_of es)
    → lookup (same_text name) (remove_entry (same_text name) es) ≡ None
gone name es distinct =
    lookup-remove_entry nat_list_eq_equiv (same_text name) (one_name name) name es distinct
    ∙ ap (λ b. cond b None (lookup (same_text name) es)) (nat_list_eq_equiv.refl name)

pub length_removed : {V : Type 0} (name : List ℕ) (es : List (List ℕ × V)) (value : V)
    → lookup (same_text name) es ≡ Some value → length (remove_entry (same_text name) es) + 1 ≡ length es
length_removed name [] value found = cc
length_removed name (e ∷ es) value found = grind (arith, nat_tests, length_removed name es value)

all_removed : {V : Type 0} (name : List ℕ) (P : List ℕ → Type 0) (es : List (List ℕ × V))
    → AllByRecursion P (keys_of es) → AllByRecursion P (keys_of (remove_entry (same_text name) es))
all_removed name P es all =
    recursion_from_All P (keys_of (remove_entry (same_text name) es))
    (All-map-remove_entry (same_text name) (λ e. e.0) P es (All-from_recursion P (keys_of es) all))

pub distinct_removed : {V : Type 0} (name : List ℕ) (es : List (List ℕ × V)) → IsDistinct same_text (keys_of es)
    → IsDistinct same_text (keys_of (remove_entry (same_text name) es))
distinct_removed name [] distinct = distinct
distinct_removed name (e ∷ es) distinct =
    let later = IsDistinct-tail same_text e.0 (keys_of es) distinct in
    let head = IsDistinct-head same_text e.0 (keys_of es) distinct in
    let rest = distinct_removed name es later in
    let apart = all_removed name (λ k. same_text e.0 k ≡ false) es head in grind (arith, nat_tests, IsDistinct-cons)

-- What entries show whose values are seen by a part of them, and what is read of them without a name.

-- a test of what the items show leaves what is shown of the items that pass it
pub map_filter : {A B : Type 0} (f : A → B) (test : B → Bool) (xs : List A)
    → map f (filter (λ x. test (f x)) xs) ≡ filter test (map f xs)
map_filter f test [] = refl
map_filter f test (x ∷ xs) = grind (arith, nat_tests, map_filter f test xs)

pub some_mapped : {X Y : Type 0} (f : X → Y) (found : Option X) → is_some (option_map f found) ≡ is_some found
some_mapped f x1 = grind (arith, nat_tests)

module _ {K X : Type 0} (test : K → Bool) where
  pub set_value_mapped : {Y : Type 0} (f : X → Y) (entries : List (K × X)) (x : X)
      → map (λ entry. (entry.0, f entry.1)) (set_value test entries x)
      ≡ set_value test (map (λ entry. (entry.0, f entry.1)) entries) (f x)
  set_value_mapped f [] x = refl
  set_value_mapped f (entry ∷ entries) x = grind (arith, nat_tests, set_value_mapped f entries x)

  abbrev others : List (K × X) → List (K × X)
  others entries = filter (λ entry. not (test entry.0)) entries

  absent_kept : (entries : List (K × X)) → lookup test entries ≡ None → entries ≡ others entries
  absent_kept [] none = refl
  absent_kept (entry ∷ entries) none = grind (arith, nat_tests, absent_kept entries)

  -- an entry that is taken out, of whose name there was no other
  pub removed_others : (entries : List (K × X)) → lookup test (remove_entry test entries) ≡ None
      → remove_entry test entries ≡ filter (λ entry. not (test entry.0)) entries
  removed_others [] gone = refl
  removed_others (entry ∷ entries) gone = grind (arith, nat_tests, removed_others entries, absent_kept)

-- what is found among the entries without those of a name
pub lookup_without : {X : Type 0} (name other : List ℕ) (entries : List (List ℕ × X))
    → lookup (same_text other) (filter (λ entry. not (same_text name entry.0)) entries)
    ≡ cond (same_text name other) None (lookup (same_text other) entries)
lookup_without name other entries =
    let found = lookup-filter-keys (same_text other) (λ k. not (same_text name k)) (not (same_text name other))
    (λ k hit. ap (λ n. not (same_text name n)) (sym (equal_names other k hit))) entries in grind (arith, nat_tests)

-- Names of entries at places.

module _ {V : Type 0} (m : Ordered V) (place : ℕ) (name : List ℕ) (stands : StandsAt m place name) where
  pub name_is : name_at m place ≡ name
  name_is = ap (λ o. unwrap_or (unwrap_or o None) []) stands

  pub stands_there : StandsAt m place (name_at m place)
  stands_there = subst (StandsAt m place) (sym name_is) stands
