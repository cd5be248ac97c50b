-- Serials that lead to the entries that a filter takes.
use Rattle.std.specs.Prelude.{List, [], ◌∷◌, ◌++◌, ℕ, ◌≡◌, ◌+◌, ◌≤◌, ⊤, Option, None, Some}
use Rattle.std.specs.List.{filter_map}
use Rattle.kob_names.specs.Binding.{Binding}
use Rattle.kob_names.specs.declared.filter.BindingFilter.{BindingFilter}
use Rattle.kob_names.specs.declared.kinds.ResourceKind.{ResourceKind}
use Rattle.kob_prefix_tree.specs.Held.{IsHeld, PrefixMap, held}
use Rattle.kob_authorizer.specs.Deletion.{bindings_taken}
use Rattle.kob_authorizer.specs.Index.{AreRising, entry_at, kind_byte}

-- each serial is greater than the one before it
abbrev pub RiseFrom : ℕ → List ℕ → Type 0
RiseFrom low [] = ⊤
RiseFrom low (serial ∷ serials) = (low ≤ serial) × RiseFrom (serial + 1) serials

-- of entries that are indexed so, those with these serials are, in order, all that the filter
-- takes, and perhaps others
abbrev pub LeadToTaken : (List (ℕ × Binding) → Type 0) → BindingFilter → List ℕ → Type 0
LeadToTaken AreIndexed wanted serials =
    (entries : List (ℕ × Binding)) → AreRising entries → AreIndexed entries
    → bindings_taken wanted (filter_map (entry_at entries) serials) ≡ bindings_taken wanted entries

-- with what the keys of a principal's bindings begin, from one host or from any
abbrev pub key_start : ResourceKind → List ℕ → Option (List ℕ) → List ℕ
key_start resource principal None = kind_byte resource ∷ (principal ++ 255 ∷ [])
key_start resource principal (Some host) =
    kind_byte resource ∷ (principal ++ 255 ∷ (host ++ 255 ∷ []))

-- the serial stands at a key that begins so
abbrev pub StandsUnder : PrefixMap → List ℕ → ℕ → Type 0
StandsUnder keys start serial = IsHeld (λ key. held keys (start ++ key)) serial
