-- One more entry of a list: its serial, where it is met.
use Rattle.std.proofs.Common.{Bool, true, false, refl, ap, ◌∙◌, List, Option, length, take, get_or, cond, map, [], ◌∷◌, ◌++◌, ◌+◌, ◌<◌, ◌≡◌, ℕ}
use Rattle.std.proofs.lemmas.List.{map-append}
use Rattle.std.proofs.lemmas.List.Elements.{filter_more}
use Rattle.std.proofs.lemmas.Grind.{common_steps}
use Rattle.std.specs.List.{filter}
use Rattle.kob_names.specs.Binding.{Binding}
use Rattle.kob_names.specs.declared.kinds.Operation.{Operation}
use Rattle.kob_names.specs.declared.kinds.Permission.{Permission}
use Rattle.kob_policy_review.specs.Classes.{is_met}
use Rattle.kob_policy_review.specs.Needed.{met}

serial_if : (wanted : Bool) (entry : ℕ × Binding)
    → map (λ (e : ℕ × Binding). e.0) (cond wanted (entry ∷ []) []) ≡ cond wanted (entry.0 ∷ []) []
serial_if true entry = refl
serial_if false entry = refl

pub met_more : (permission : Permission) (host : Option (List ℕ)) (operation : Operation)
    (entries : List (ℕ × Binding)) (i : ℕ) (d : ℕ × Binding) → i < length entries
    → met permission host operation (take (i + 1) entries)
    ≡ met permission host operation (take i entries)
    ++ cond (is_met permission host operation (get_or entries i d)) ((get_or entries i d).0 ∷ []) []
met_more permission host operation entries i d below =
    ap (map (λ (e : ℕ × Binding). e.0)) (filter_more (is_met permission host operation) entries i d below)
    ∙ map-append (λ (e : ℕ × Binding). e.0) (filter (is_met permission host operation) (take i entries)) _
    ∙ ap (λ t. met permission host operation (take i entries) ++ t)
    (serial_if (is_met permission host operation (get_or entries i d)) (get_or entries i d))

pub ruleset meeting = (common_steps, met_more)
