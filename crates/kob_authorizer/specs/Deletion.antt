-- What deleting bindings does to the list in force, and what a description finds in it.
use Rattle.std.specs.Prelude.{List, [], ◌∷◌, ℕ, ◌≡◌, map, not}
use Rattle.std.specs.List.{filter, fold}
use Rattle.kob_names.specs.Binding.{Binding}
use Rattle.kob_names.specs.declared.filter.BindingFilter.{BindingFilter}
use Rattle.kob_names.specs.Filter.{takes}
use Rattle.kob_authorizer.specs.Decide.{Contents, State}
use Rattle.kob_authorizer.specs.Index.{addition, binding_key, key_place, removals_of, without_addition, without_removal}
use Rattle.kob_authorizer.specs.declared.index.Index.{Index}
use Rattle.kob_authorizer.specs.declared.removal.Removals.{Removals}
use Rattle.kob_authorizer.specs.declared.removal.Removals.TheVariants.{One, Several}

-- the filter of a deletion, and what it takes
pub record Deletion : Type 0 where
  pub filter : BindingFilter
  pub taken : List (ℕ × Binding)

-- the entries that a filter takes
abbrev pub bindings_taken : BindingFilter → List (ℕ × Binding) → List (ℕ × Binding)
bindings_taken wanted entries = filter (λ (entry : ℕ × Binding). takes wanted entry.1) entries

-- the entries without those that a filter takes
abbrev pub bindings_left : BindingFilter → List (ℕ × Binding) → List (ℕ × Binding)
bindings_left wanted entries = filter (λ (entry : ℕ × Binding). not (takes wanted entry.1)) entries

-- the contents without what a filter takes
abbrev pub without_taken : BindingFilter → Contents → Contents
without_taken wanted contents = record contents { entries = bindings_left wanted contents.entries }

-- the deletion can be carried out: what it takes is what its filter takes of the entries in force
abbrev pub CanDelete : Deletion → State → Type 0
CanDelete made state = made.taken ≡ bindings_taken made.filter state.contents.entries

-- what is removed from the trees with these entries
abbrev pub Removes : Removals → List (ℕ × Binding) → Type 0
Removes (One key) taken =
    map (λ (entry : ℕ × Binding). binding_key entry.1) taken ≡ key.items ∷ []
Removes (Several keys patterns) taken =
    (keys.items ≡ map (addition key_place) taken) × (patterns.items ≡ removals_of taken)

-- the trees without these entries
abbrev pub without_entries : Index → List (ℕ × Binding) → Index
without_entries index taken = record {
  patterns = fold without_removal index.patterns (removals_of taken);
  keys = fold without_addition index.keys (map (addition key_place) taken);
}
