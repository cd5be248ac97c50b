-- The commands that lead from one set of bindings to another, one binding each. Denies are added
-- first and removed last, and allows are added before others are removed, so that on the way no
-- right is missing that both sets grant, and none is granted that neither does.
use Rattle.std.specs.Prelude.{◌≡◌, ℕ, Bool, true, false, List, [], ◌∷◌, ◌++◌, ◌&&◌, Some, not, flat_map, if◌then◌else◌}
use Rattle.std.specs.List.{filter, fold, list_any}
use Rattle.kob_names.specs.Binding.{Binding, same_binding}
use Rattle.kob_names.specs.Same.{same_permission}
use Rattle.kob_names.specs.declared.kinds.Permission.{Permission}
use Rattle.kob_names.specs.declared.kinds.Permission.TheVariants.{Allow, Deny}
use Rattle.kob_names.specs.declared.filter.BindingFilter.{BindingFilter}
use Rattle.kob_names.specs.declared.filter.FilterPattern.{FilterPattern}
use Rattle.kob_names.specs.declared.filter.FilterPattern.TheVariants as filters
use Rattle.kob_names.specs.declared.kinds.PatternKind.{PatternKind}
use Rattle.kob_names.specs.declared.kinds.PatternKind.TheVariants.{Literal, Prefixed}
use Rattle.kob_authorizer.specs.Decide.{Contents, Question, is_unmatched}
use Rattle.kob_policy_review.specs.Alike.{is_yes}
use Rattle.kob_policy_text.specs.declared.commands.Step.{Step}
use Rattle.kob_policy_text.specs.declared.commands.Step.TheVariants.{Add, Remove}

-- an equal binding is in force
abbrev pub is_among : List (ℕ × Binding) → Binding → Bool
is_among entries binding =
    list_any (λ (entry : ℕ × Binding). same_binding binding entry.1) entries

-- a filter that takes equal bindings alone
abbrev pub pattern_of : PatternKind → FilterPattern
pattern_of Literal = filters.Literal
pattern_of Prefixed = filters.Prefixed

abbrev pub exactly : Binding → BindingFilter
exactly binding = record {
  resource = Some binding.resource;
  name = Some binding.pattern.name;
  pattern = pattern_of binding.pattern.kind;
  principal = Some binding.principal;
  host = Some binding.host;
  operation = Some binding.operation;
  permission = Some binding.permission;
}

-- it has this permission, and no equal one is among the others
abbrev pub is_only : Permission → List (ℕ × Binding) → ℕ × Binding → Bool
is_only permission others entry =
    same_permission entry.1.permission permission && not (is_among others entry.1)

abbrev pub step_of : Bool → Binding → Step
step_of true binding = Add binding
step_of false binding = Remove binding

-- the command on an entry, which adds it or not, unless the others have its binding
unfoldable pub step_on : Bool → Permission → List (ℕ × Binding) → ℕ × Binding → List Step
step_on adds permission others entry =
    if is_only permission others entry then step_of adds entry.1 ∷ [] else []

unfoldable pub additions : Permission → List (ℕ × Binding) → List (ℕ × Binding) → List Step
additions permission before after = flat_map (step_on true permission before) after

unfoldable pub removals : Permission → List (ℕ × Binding) → List (ℕ × Binding) → List Step
removals permission before after = flat_map (step_on false permission after) before

abbrev pub steps : List (ℕ × Binding) → List (ℕ × Binding) → List Step
steps before after =
    additions Deny before after ++ (additions Allow before after
    ++ (removals Allow before after ++ removals Deny before after))

-- What a command does to the bindings in force. No answer depends on the serial, which is 0 here.
abbrev pub with_step : List (ℕ × Binding) → Step → List (ℕ × Binding)
with_step entries (Add binding) = entries ++ (0, binding) ∷ []
with_step entries (Remove binding) =
    filter (λ (entry : ℕ × Binding). not (same_binding binding entry.1)) entries

-- the rules after some commands
unfoldable pub rules_after : Contents → List Step → Contents
rules_after rules done = record rules { entries = fold with_step rules.entries done }

-- commands change no setting
pub record HaveSameSettings (before after : Contents) : Type 0 where
  pub supers : before.supers ≡ after.supers
  pub everyone : before.everyone ≡ after.everyone

-- Where what no binding matches is open to everyone, a binding matches on both sides or on neither.
-- (The first binding on a name closes it for all, and no order of single commands mends that.)
abbrev pub IsMatchedAlike : Contents → Contents → Question → Type 0
IsMatchedAlike before after question =
    before.everyone ≡ true
    → is_unmatched before.entries question ≡ is_unmatched after.entries question

-- whatever commands were given, and whatever are left
pub record KeepAnswers (before after : Contents) : Type 0 where
  pub granted : (done left : List Step) (question : Question)
      → done ++ left ≡ steps before.entries after.entries → IsMatchedAlike before after question
      → is_yes before question ≡ true → is_yes after question ≡ true
      → is_yes (rules_after before done) question ≡ true
  pub refused : (done left : List Step) (question : Question)
      → done ++ left ≡ steps before.entries after.entries
      → is_yes before question ≡ false → is_yes after question ≡ false
      → is_yes (rules_after before done) question ≡ false
  pub leads : (binding : Binding)
      → is_among (rules_after before (steps before.entries after.entries)).entries binding
      ≡ is_among after.entries binding
