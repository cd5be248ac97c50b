-- Where each binding counts, and where a target stands among others.
use Rattle.std.specs.Prelude.{◌≡◌, Bool, Contains, List, None, Option, ℕ, false, Some, Vec, map, slice_get}
use Rattle.std.specs.Int.{to_be_bytes, w64}
use Rattle.std.specs.List.{filter}
use Rattle.kob_names.specs.Binding.{Binding}
use Rattle.kob_authorizer.specs.Decide.{Contents}
use Rattle.kob_prefix_tree.specs.Held.{PrefixMap, added, held}
use Rattle.kob_prefix_tree.specs.declared.kind.PatternKind.TheVariants.{Literal}
use Rattle.kob_policy_review.specs.Classes.{is_on, same_target}
use Rattle.kob_policy_review.specs.Finding.{text_of}
use Rattle.kob_policy_review.specs.Redundancy.{is_outside}
use Rattle.kob_policy_review.specs.Removal.{is_needed_in}
use Rattle.kob_policy_review.specs.declared.class.Target.{Target}

-- the places among the targets that the tree has for a serial
abbrev pub places_in : PrefixMap → ℕ → List ℕ
places_in tree serial = (held tree (to_be_bytes w64 serial)).0

unfoldable pub with_place : ℕ → PrefixMap → ℕ × Binding → PrefixMap
with_place place tree entry = added tree (to_be_bytes w64 entry.0) Literal place

-- the target at a place, if there is one, is this
abbrev pub is_at : Target → Option Target → Bool
is_at target None = false
is_at target (Some other) = same_target target other

-- the tree leads from the text of each target's names to its place
abbrev pub ArePlaced : List Target → PrefixMap → Type 0
ArePlaced targets tree =
    (place : ℕ) → (target : Target) → slice_get targets place ≡ Some target
    → Contains (held tree (text_of target.names)).0 place

-- the entries on a target, and the lists of some
abbrev pub row_on : List (ℕ × Binding) → Target → List (ℕ × Binding)
row_on entries target = filter (is_on target) entries

abbrev pub rows_of : {A : Type 0} → List (Vec (ℕ × Binding) A) → List (List (ℕ × Binding))
rows_of {A = A} vecs = map (λ (vec : Vec (ℕ × Binding) A). vec.items) vecs

-- the tree leads from each entry to the places of the rows that have it
abbrev pub LeadsToRows : List (List (ℕ × Binding)) → PrefixMap → Type 0
LeadsToRows rows tree =
    (place : ℕ) → (row : List (ℕ × Binding)) → (entry : ℕ × Binding)
    → slice_get rows place ≡ Some row → Contains row entry
    → Contains (places_in tree entry.0) place

-- whether the entry is needed in a row, if there is one, once some are gone
abbrev pub is_needed_of : {A : Type 0} → Contents → (ℕ → Bool) → ℕ × Binding
    → Option (Vec (ℕ × Binding) A) → Bool
is_needed_of rules gone entry None = false
is_needed_of rules gone entry (Some row) =
    is_needed_in rules.supers rules.everyone (filter (is_outside gone) row.items) entry
