-- A binding that is equal to the one at a place is among all.
use Rattle.std.proofs.Common.{List, None, Option, Some, refl, true, ℕ, ◌≡◌}
use Rattle.std.proofs.lemmas.Map.Keys.{any_passes_from_place}
use Rattle.std.specs.List.{slice_get}
use Rattle.kob_names.specs.Binding.{Binding, same_binding}
use Rattle.kob_policy_text.specs.Moved.{is_equal}
use Rattle.kob_policy_text.specs.Steps.{is_among}

module _ (entries : List (ℕ × Binding)) (place : ℕ) (binding : Binding) where
  by : (found : Option (ℕ × Binding)) → slice_get entries place ≡ found → is_equal binding found ≡ true
      → is_among entries binding ≡ true
  by None is equal = absurd cc
  by (Some entry) is equal =
      any_passes_from_place (λ (one : ℕ × Binding). same_binding binding one.1) entries place entry is equal

  pub stands_among : is_equal binding (slice_get entries place) ≡ true → is_among entries binding ≡ true
  stands_among equal = by (slice_get entries place) refl equal
