-- The bindings that may go together.
use Rattle.std.specs.Prelude.{◌↔◌, Bool, List, [], ◌∷◌, ℕ, ◌==◌, ◌++◌, Contains, codes, fold, if◌then◌else◌, map, nat_lt, Option, Some, None, false}
use Rattle.std.specs.List.{filter, flat_map, list_any}
use Rattle.kob_names.specs.Binding.{Binding}
use Rattle.kob_names.specs.Same.{same_text}
use Rattle.kob_authorizer.specs.Decide.{Contents}
use Rattle.kob_policy_review.specs.Alike.{AnswerAlike, without}
use Rattle.kob_policy_review.specs.Classes.{is_on, principals_named}
use Rattle.kob_policy_review.specs.Needed.{needed_by}
use Rattle.kob_policy_review.specs.Redundancy.{is_needed, is_outside}
use Rattle.kob_policy_review.specs.Shadows.{serial_of_entry}
use Rattle.kob_policy_review.specs.declared.class.Target.{Target}

-- the rules without the bindings whose serials pass a test
abbrev pub without_those : (ℕ → Bool) → Contents → Contents
without_those gone rules =
    record rules { entries = filter (is_outside gone) rules.entries }

abbrev pub is_among : List ℕ → ℕ → Bool
is_among serials serial = list_any (λ other. other == serial) serials

-- the rules without the bindings of these serials
abbrev pub without_all : List ℕ → Contents → Contents
without_all serials rules = without_those (is_among serials) rules

-- the set, and a binding more if no answer needs it once the set is gone
unfoldable pub with_removable : Contents → List ℕ → ℕ × Binding → List ℕ
with_removable rules gone entry =
    if is_needed (without_all gone rules) entry.0 then gone else (gone ++ entry.0 ∷ [])

-- the serials of the set, to which each binding in its turn is put that may go with it
abbrev pub removable_in : Contents → List ℕ
removable_in rules = fold (with_removable rules) [] rules.entries

-- the rules that are left when the turn of a serial comes
abbrev pub left_for : ℕ → List ℕ → Contents → Contents
left_for serial gone rules = without_all (filter (λ other. nat_lt other serial) gone) rules

-- the set may go together, and a binding is in it exactly if no answer changes without it and
-- those of the set before it
pub record ListsRemovable (rules : Contents) (gone : List ℕ) : Type 0 where
  pub together : AnswerAlike rules (without_all gone rules)
  pub exact : (entry : ℕ × Binding) → Contains rules.entries entry → Contains gone entry.0
      ↔ AnswerAlike (left_for entry.0 gone rules) (without entry.0 (left_for entry.0 gone rules))
  pub only : (serial : ℕ) → Contains gone serial
      → Contains (map serial_of_entry rules.entries) serial

-- the principals to whom an answer may change without an entry
abbrev pub concerned : ℕ × Binding → List (ℕ × Binding) → List (Option (List ℕ))
concerned entry matching =
    if same_text entry.1.principal (codes "User:*") then principals_named matching
    else None ∷ Some entry.1.principal ∷ []

-- whether the entry is needed on some names, of the entries that match these
abbrev pub is_needed_in : List (List ℕ) → Bool → List (ℕ × Binding) → ℕ × Binding → Bool
is_needed_in supers everyone matching entry =
    list_any (λ other. other == entry.0)
    (flat_map (needed_by supers everyone matching) (concerned entry matching))

-- whether it is needed on a target, if there is one, once some are gone
abbrev pub is_needed_at : Contents → (ℕ → Bool) → ℕ × Binding → Option Target → Bool
is_needed_at rules gone entry None = false
is_needed_at rules gone entry (Some target) =
    is_needed_in rules.supers rules.everyone
    (filter (is_outside gone) (filter (is_on target) rules.entries)) entry
