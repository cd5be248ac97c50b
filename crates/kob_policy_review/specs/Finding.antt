-- Entries that are found by serials, and the serials that stand near a text.
use Rattle.std.specs.Prelude.{Bool, true, List, [], ◌∷◌, ◌++◌, ℕ, ◌+◌, ◌≤◌, Option, None, Some, ⊤, codes, flat_map}
use Rattle.std.specs.FinMap as finite
use Rattle.std.specs.List.{fold, list_any}
use Rattle.std.specs.Option.{option_to_list}
use Rattle.kob_names.specs.Binding.{Binding}
use Rattle.kob_authorizer.specs.Index.{Place, addition, entry_at, pattern_place, with_addition}
use Rattle.kob_prefix_tree.specs.Held.{Held, PrefixMap, held}
use Rattle.kob_prefix_tree.specs.declared.kind.PatternKind.TheVariants as in_tree
use Rattle.kob_policy_review.specs.declared.class.Names.{Names}
use Rattle.kob_policy_review.specs.declared.class.Names.TheVariants.{Exactly, Below}

-- the entry with a serial, if there is one
abbrev pub found : List (ℕ × Binding) → ℕ → List (ℕ × Binding)
found entries serial = option_to_list (entry_at entries serial)

-- the entries with these serials
abbrev pub picked : List (ℕ × Binding) → List ℕ → List (ℕ × Binding)
picked entries serials = flat_map (found entries) serials

-- each is greater than the one before it
abbrev pub RiseFrom : ℕ → List ℕ → Type 0
RiseFrom low [] = ⊤
RiseFrom low (serial ∷ serials) = (low ≤ serial) × RiseFrom (serial + 1) serials

-- one more entry by the name of its pattern
abbrev pub with_name : PrefixMap → ℕ × Binding → PrefixMap
with_name tree entry = with_addition tree (addition pattern_place entry)

-- the names of the patterns of entries
abbrev pub names_in : List (ℕ × Binding) → PrefixMap
names_in entries = fold with_name finite.empty entries

-- the text that the names are, or begin with
abbrev pub text_of : Names → List ℕ
text_of (Exactly name) = name
text_of (Below start) = start

-- the tree has this key
abbrev pub is_held : PrefixMap → List ℕ → Bool
is_held keys text = list_any (λ _. true) (held keys text).0

-- among the principals an entry stands at its own
abbrev pub principal_place : Binding → Place
principal_place binding = record { kind = in_tree.Literal; key = binding.principal }

-- one more entry by the principal that it names
abbrev pub with_asker : PrefixMap → ℕ × Binding → PrefixMap
with_asker tree entry = with_addition tree (addition principal_place entry)

-- the principals that entries name
abbrev pub askers_in : List (ℕ × Binding) → PrefixMap
askers_in entries = fold with_asker finite.empty entries

-- the serials of the entries for all, and of those that name the principal
abbrev pub asking_serials : (List ℕ → Held) → Option (List ℕ) → List ℕ
asking_serials held_at None = (held_at (codes "User:*")).0
asking_serials held_at (Some principal) = (held_at (codes "User:*")).0 ++ (held_at principal).0
