-- Allows that a deny always beats.
use Rattle.std.specs.Prelude.{◌≡◌, ◌↔◌, Bool, true, false, List, [], ℕ, ◌&&◌, ◌==◌, not, Option, Contains, flat_map, map, if◌then◌else◌}
use Rattle.std.specs.List.{filter, list_any}
use Rattle.kob_names.specs.Binding.{Binding}
use Rattle.kob_names.specs.declared.kinds.Operation.{Operation}
use Rattle.kob_names.specs.declared.kinds.Permission.TheVariants.{Allow, Deny}
use Rattle.kob_authorizer.specs.Decide.{Contents, Question, is_hit, is_super}
use Rattle.kob_policy_review.specs.Alike.{IsAskable}
use Rattle.kob_policy_review.specs.Classes.{hosts_named, is_for, is_met, is_on, operations, principals_named, targets_named}
use Rattle.kob_policy_review.specs.Needed.{is_super_party, met}
use Rattle.kob_policy_review.specs.declared.class.Target.{Target}

-- the serials of the allows that are met, unless a deny beats them where that counts
unfoldable pub bearing_to : Bool → List (ℕ × Binding) → Option (List ℕ) → Operation → List ℕ
bearing_to beaten asking host operation =
    if beaten && list_any (is_met Deny host operation) asking then []
    else met Allow host operation asking

unfoldable pub bearing_from : Bool → List (ℕ × Binding) → Option (List ℕ) → List ℕ
bearing_from beaten asking host = flat_map (bearing_to beaten asking host) operations

unfoldable pub bearing_by : Bool → List (List ℕ) → List (ℕ × Binding) → Option (List ℕ) → List ℕ
bearing_by beaten supers matching principal =
    if is_super_party supers principal then []
    else flat_map (bearing_from beaten (filter (is_for principal) matching))
    (hosts_named (filter (is_for principal) matching))

unfoldable pub bearing_on : Bool → Contents → Target → List ℕ
bearing_on beaten rules target =
    flat_map (bearing_by beaten rules.supers (filter (is_on target) rules.entries))
    (principals_named (filter (is_on target) rules.entries))

-- the serials of the allows that bear on a question of one who is no super user
unfoldable pub bearing : Bool → Contents → List ℕ
bearing beaten rules = flat_map (bearing_on beaten rules) (targets_named rules.entries)

-- a question of one who is no super user, on which the binding bears as an allow
pub record BearsOn (rules : Contents) (entry : ℕ × Binding) (question : Question) : Type 0 where
  pub askable : IsAskable question
  pub plain : is_super rules.supers question.principal ≡ false
  pub hit : is_hit Allow question entry ≡ true

-- a deny beats the allow wherever it bears, and it does bear on something
pub record IsShadowed (rules : Contents) (entry : ℕ × Binding) : Type 0 where
  pub beaten : (question : Question) → BearsOn rules entry question
      → list_any (is_hit Deny question) rules.entries ≡ true
  pub somewhere : (question : Question) × BearsOn rules entry question

abbrev pub serial_of_entry : ℕ × Binding → ℕ
serial_of_entry entry = entry.0

-- the serial passes the one test and not the other
abbrev pub is_between : (ℕ → Bool) → (ℕ → Bool) → ℕ × Binding → Bool
is_between some others entry = some entry.0 && not (others entry.0)

-- the serials of the bindings that bear somewhere, and nowhere without a deny
abbrev pub is_shadowed : Contents → ℕ × Binding → Bool
is_shadowed rules entry =
    list_any (λ serial. serial == entry.0) (bearing false rules)
    && not (list_any (λ serial. serial == entry.0) (bearing true rules))

-- the serials of those, in order
abbrev pub shadowed_in : Contents → List ℕ
shadowed_in rules = map serial_of_entry (filter (is_shadowed rules) rules.entries)

-- exactly the serials of the allows that a deny always beats
pub record ListsShadowed (rules : Contents) (found : List ℕ) : Type 0 where
  pub exact : (entry : ℕ × Binding) → Contains rules.entries entry
      → Contains found entry.0 ↔ IsShadowed rules entry
