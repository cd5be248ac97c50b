-- What contracts see of a map in order of insertion.
use Rattle.std.specs.Prelude.{◌≡◌, ℕ, List, [], Option, None, Some, refl, slice_get, unwrap_or}
use Rattle.std.specs.Coded.{Coded, code_by, coded×, coded_list, coded_option, coded_ℕ}
use Rattle.std.specs.Map.{set_value}
use Rattle.kob_names.specs.Same.{same_text}

-- names with values in order of insertion, room for more, holes of entries gone, names by place
pub record Ordered (V : Type 0) : Type 0 where
  pub entries : List (List ℕ × V)
  pub room : ℕ
  pub holes : ℕ
  pub names : List (Option (List ℕ))

abbrev pub ordered_code : {V : Type 0} → Coded V → Coded (Ordered V)
ordered_code {V} code =
    code_by (List (List ℕ × V) × (ℕ × (ℕ × List (Option (List ℕ)))))
    (coded× (coded_list (coded× (coded_list coded_ℕ) code))
    (coded× coded_ℕ (coded× coded_ℕ (coded_list (coded_option (coded_list coded_ℕ))))))
    (λ m. (m.entries, (m.room, (m.holes, m.names))))
    (λ p. record { entries = p.0; room = p.1.0; holes = p.1.1.0; names = p.1.1.1 }) (λ _. refl)

-- the entry of that name stands at the place
abbrev pub StandsAt : {V : Type 0} → Ordered V → ℕ → List ℕ → Type 0
StandsAt m place name = slice_get m.names place ≡ Some (Some name)

-- the name of the entry at a place
abbrev pub name_at : {V : Type 0} → Ordered V → ℕ → List ℕ
name_at m place = unwrap_or (unwrap_or (slice_get m.names place) None) []

-- the map with the value of a name that is there written
abbrev pub with_value : {V : Type 0} → Ordered V → List ℕ → V → Ordered V
with_value m name value = record m { entries = set_value (same_text name) m.entries value }
