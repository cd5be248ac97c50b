-- Where the entries of slots stand, and what a change of one slot does to them.
use Rattle.kob_ordered.proofs.Words.{Bool, Entry, Hole, IsSome, List, Slot, Some, [], ap, arith, bytes_eq-Decides, cond, entries_in, false, filter, is_entry, is_some, lookup, named, names_in, nat_tests, option_map, refl, remove_entry, same_text, set, set_value, slice_get, slice_get-map, suc, sym, true, zero, ℕ, ◌++◌, ◌∙◌, ◌∷◌, ◌≡◌}

pub equal_names : (a b : List ℕ) → same_text a b ≡ true → a ≡ b
equal_names a b = (bytes_eq-Decides a b).0

pub same_name : (a b : List ℕ) → a ≡ b → same_text a b ≡ true
same_name a b = (bytes_eq-Decides a b).1

module _ {V : Type 0} where
  -- the entry where a name stands
  pub entry_at : (slots : List (Slot V)) (place : ℕ) (name : List ℕ)
      → slice_get (names_in slots) place ≡ Some (Some name)
      → (value : V) × (slice_get slots place ≡ Some (Entry name value))
  entry_at [] place name is = cc
  entry_at (Hole ∷ slots) zero name is = cc
  entry_at (Entry head value ∷ slots) zero name is =
      let same : head ≡ name = cc in (value, ap (λ n. Some (Entry n value)) same)
  entry_at (head ∷ slots) (suc place) name is = entry_at slots place name is

  pub name_at : (slots : List (Slot V)) (place : ℕ) (name : List ℕ) (value : V)
      → slice_get slots place ≡ Some (Entry name value) → slice_get (names_in slots) place ≡ Some (Some name)
  name_at slots place name value there = slice_get-map named slots place ∙ ap (option_map named) there

  -- a name of an entry has a place
  pub stands_in : (name : List ℕ) (slots : List (Slot V)) → IsSome (lookup (same_text name) (entries_in slots))
      → (place : ℕ) × (slice_get (names_in slots) place ≡ Some (Some name))
  stands_in name [] some = cc
  stands_in name (Hole ∷ slots) some = let later = stands_in name slots some in (suc later.0, later.1)
  stands_in name (Entry other value ∷ slots) some = by (same_text name other) refl some (stands_in name slots)
    where
      by : (hit : Bool) → same_text name other ≡ hit
          → is_some (cond hit (Some value) (lookup (same_text name) (entries_in slots))) ≡ true
          → (IsSome (lookup (same_text name) (entries_in slots))
          → (place : ℕ) × (slice_get (names_in slots) place ≡ Some (Some name)))
          → (place : ℕ) × (slice_get (names_in (Entry other value ∷ slots)) place ≡ Some (Some name))
      by true is some rest = (0, ap (λ n. Some (Some n)) (sym (equal_names name other is)))
      by false is some rest = let later = rest some in (suc later.0, later.1)

  -- no other place is that of the name
  abbrev pub IsOnly : List (Slot V) → List ℕ → ℕ → Type 0
  IsOnly slots name place = (other : ℕ) → slice_get (names_in slots) other ≡ Some (Some name) → other ≡ place

  only_later : (slot : Slot V) (slots : List (Slot V)) (name : List ℕ) (place : ℕ)
      → IsOnly (slot ∷ slots) name (suc place) → IsOnly slots name place
  only_later slot slots name place only other there = omega (arith, only (suc other) there)

  other_name : (head : List ℕ) (value : V) (slots : List (Slot V)) (name : List ℕ) (place : ℕ)
      → IsOnly (Entry head value ∷ slots) name (suc place) → same_text name head ≡ false
  other_name head value slots name place only =
      let first = only 0 in grind (arith, nat_tests, equal_names name head)

  pub found_at : (slots : List (Slot V)) (name : List ℕ) (place : ℕ) (value : V)
      → slice_get slots place ≡ Some (Entry name value) → IsOnly slots name place
      → lookup (same_text name) (entries_in slots) ≡ Some value
  found_at [] name place value there only = cc
  found_at (Hole ∷ slots) name zero value there only = cc
  found_at (Entry head other ∷ slots) name zero value there only = grind (arith, nat_tests, same_name)
  found_at (Hole ∷ slots) name (suc place) value there only =
      found_at slots name place value there (only_later Hole slots name place only)
  found_at (Entry head other ∷ slots) name (suc place) value there only =
      let later = found_at slots name place value there (only_later (Entry head other) slots name place only) in
      let differs = other_name head other slots name place only in grind (arith, nat_tests)

  -- a hole in the place of an entry
  pub holed_at : (slots : List (Slot V)) (name : List ℕ) (place : ℕ) (value : V)
      → slice_get slots place ≡ Some (Entry name value) → IsOnly slots name place
      → entries_in (set slots place Hole) ≡ remove_entry (same_text name) (entries_in slots)
  holed_at [] name place value there only = cc
  holed_at (Hole ∷ slots) name zero value there only = cc
  holed_at (Entry head other ∷ slots) name zero value there only = grind (arith, nat_tests, same_name)
  holed_at (Hole ∷ slots) name (suc place) value there only =
      holed_at slots name place value there (only_later Hole slots name place only)
  holed_at (Entry head other ∷ slots) name (suc place) value there only =
      let later = holed_at slots name place value there (only_later (Entry head other) slots name place only) in
      let others = only_later (Entry head other) slots name place only in
      let differs = other_name head other slots name place only in grind (arith, nat_tests)

  -- another value in the place of an entry's
  pub written_at : (slots : List (Slot V)) (name : List ℕ) (place : ℕ) (value w : V)
      → slice_get slots place ≡ Some (Entry name value) → IsOnly slots name place
      → entries_in (set slots place (Entry name w)) ≡ set_value (same_text name) (entries_in slots) w
  written_at [] name place value w there only = cc
  written_at (Hole ∷ slots) name zero value w there only = cc
  written_at (Entry head other ∷ slots) name zero value w there only = grind (arith, nat_tests, same_name)
  written_at (Hole ∷ slots) name (suc place) value w there only =
      written_at slots name place value w there (only_later Hole slots name place only)
  written_at (Entry head other ∷ slots) name (suc place) value w there only =
      let later = written_at slots name place value w there (only_later (Entry head other) slots name place only) in
      let others = only_later (Entry head other) slots name place only in
      let differs = other_name head other slots name place only in grind (arith, nat_tests)

  -- an entry put last
  pub pushed : (slots : List (Slot V)) (name : List ℕ) (value : V)
      → entries_in (slots ++ Entry name value ∷ []) ≡ entries_in slots ++ (name, value) ∷ []
  pushed [] name value = refl
  pushed (Hole ∷ slots) name value = pushed slots name value
  pushed (Entry head other ∷ slots) name value = ap (λ es. (head, other) ∷ es) (pushed slots name value)

  pub names_written : (slots : List (Slot V)) (place : ℕ) (name : List ℕ) (value w : V)
      → slice_get slots place ≡ Some (Entry name value)
      → names_in (set slots place (Entry name w)) ≡ names_in slots
  names_written [] place name value w there = cc
  names_written (head ∷ slots) zero name value w there = grind (arith, nat_tests)
  names_written (head ∷ slots) (suc place) name value w there =
      ap (λ ns. named head ∷ ns) (names_written slots place name value w there)

  -- the holes taken away
  pub packed : (slots : List (Slot V)) → entries_in (filter is_entry slots) ≡ entries_in slots
  packed [] = refl
  packed (Hole ∷ slots) = packed slots
  packed (Entry name value ∷ slots) = ap (λ es. (name, value) ∷ es) (packed slots)
