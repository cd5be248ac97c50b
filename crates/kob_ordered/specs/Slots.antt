-- The slots of a map, and the places of its entries in order of their names. Not cited publicly.
use Rattle.std.specs.Prelude.{◌≡◌, ℕ, ◌<◌, ◌≤◌, Bool, true, false, List, [], ◌∷◌, Option, None, Some, filter, length, map, slice_get, take}
use Rattle.std.specs.Cmp.Lexicographic.{slice_cmp}
use Rattle.std.specs.Ordering.{nat_cmp}
use Rattle.std.specs.List.{IsDistinct}
use Rattle.std.specs.Map.{keys_of}
use Rattle.std.specs.declared.cmp.Ordering.{Ordering}
use Rattle.std.specs.declared.cmp.Ordering.TheVariants.{Less}
use Rattle.kob_names.specs.Same.{same_text}
use Rattle.kob_ordered.specs.declared.slot.Slot.{Slot}
use Rattle.kob_ordered.specs.declared.slot.Slot.TheVariants.{Entry, Hole}

-- names by their bytes
abbrev pub name_order : List ℕ → List ℕ → Ordering
name_order = slice_cmp nat_cmp

module _ {V : Type 0} where
  abbrev pub is_entry : Slot V → Bool
  is_entry Hole = false
  is_entry (Entry name value) = true

  abbrev pub name_in : Slot V → List ℕ
  name_in Hole = []
  name_in (Entry name value) = name

  -- the name of the entry in a slot, and of each of the slots
  abbrev pub named : Slot V → Option (List ℕ)
  named Hole = None
  named (Entry name value) = Some name

  abbrev pub names_in : List (Slot V) → List (Option (List ℕ))
  names_in slots = map named slots

  -- the slot with another value
  abbrev pub with_value_in : Slot V → V → Slot V
  with_value_in slot value = Entry (name_in slot) value

  -- the entries that are in the slots, in order
  abbrev pub entries_in : List (Slot V) → List (List ℕ × V)
  entries_in [] = []
  entries_in (Hole ∷ slots) = entries_in slots
  entries_in (Entry name value ∷ slots) = (name, value) ∷ entries_in slots

  -- how the name of an entry compares with a name
  abbrev pub order_of : List ℕ → Option (Slot V) → Ordering
  order_of name None = Less
  order_of name (Some Hole) = Less
  order_of name (Some (Entry other value)) = name_order other name

  -- how many entries stand before a place
  abbrev pub rank : List (Slot V) → ℕ → ℕ
  rank slots place = length (filter is_entry (take place slots))

-- the i-th of the listed places is that of the name
pub record Nth (names : List (Option (List ℕ))) (by_name name : List ℕ) (i : ℕ) : Type 0 where
  pub place : ℕ
  pub listed : slice_get by_name i ≡ Some place
  pub stands : slice_get names place ≡ Some (Some name)

-- the places are those of all names, each once, in order of the names, no two of which are the same
pub record AreListed (names : List (Option (List ℕ))) (by_name : List ℕ) : Type 0 where
  pub rising :
      (i j : ℕ) (n m : List ℕ)
      → i < j → Nth names by_name n i → Nth names by_name m j → name_order n m ≡ Less
  pub stand : (i place : ℕ) → slice_get by_name i ≡ Some place
      → (name : List ℕ) × (slice_get names place ≡ Some (Some name))
  pub all : (place : ℕ) (name : List ℕ) → slice_get names place ≡ Some (Some name)
      → (i : ℕ) × (slice_get by_name i ≡ Some place)

-- the places of all entries are listed in order of their names
pub record IsSound {V : Type 0} (slots : List (Slot V)) (by_name : List ℕ) : Type 0 where
  pub listed : AreListed (names_in slots) by_name
  pub distinct : IsDistinct same_text (keys_of (entries_in slots))
  pub counted : length by_name ≡ length (entries_in slots)

-- the name would stand before the i-th of the listed places
pub record IsGap (names : List (Option (List ℕ))) (by_name name : List ℕ) (i : ℕ) : Type 0 where
  pub within : i ≤ length by_name
  pub before : (k : ℕ) (n : List ℕ) → k < i → Nth names by_name n k → name_order n name ≡ Less
  pub after : (k : ℕ) (n : List ℕ) → i ≤ k → Nth names by_name n k → name_order name n ≡ Less
