-- What becomes of the answers from one set of rules to another.
use Rattle.std.specs.Prelude.{⊤, ◌≡◌, ◌≢◌, Bool, true, false, List, [], ◌∷◌, ℕ, ◌&&◌, ◌||◌, codes, not, Option, Some, None, Contains, flat_map, if◌then◌else◌}
use Rattle.std.specs.List.{filter, fold, list_any}
use Rattle.kob_names.specs.Binding.{Binding}
use Rattle.kob_names.specs.Same.{same_text}
use Rattle.kob_names.specs.declared.kinds.Operation.{Operation}
use Rattle.kob_names.specs.declared.kinds.Permission.TheVariants.{Allow, Deny}
use Rattle.kob_authorizer.specs.Decide.{Contents, Question, is_super}
use Rattle.kob_policy_review.specs.Alike.{IsAskable, is_yes, mark_of}
use Rattle.kob_policy_review.specs.Classes.{hosts_named, is_for, is_met, is_on, operations, principals_named, representative, targets_named, with_host, with_principal, with_target_of}
use Rattle.kob_policy_review.specs.Needed.{is_super_party}
use Rattle.kob_policy_review.specs.declared.class.Class.{Class}
use Rattle.kob_policy_review.specs.declared.class.Target.{Target}
use Rattle.kob_policy_review.specs.declared.difference.Change.{Change}
use Rattle.kob_policy_review.specs.declared.difference.Outcome.{Outcome}
use Rattle.kob_policy_review.specs.declared.difference.Outcome.TheVariants.{Gained, Lost, Same}

-- a yes or a no, before and after
abbrev pub outcome_of : Bool → Bool → Outcome
outcome_of false true = Gained
outcome_of true false = Lost
outcome_of before after = Same

-- what becomes of the answer to a question
abbrev pub outcome : Contents → Contents → Question → Outcome
outcome before after question = outcome_of (is_yes before question) (is_yes after question)

-- The bindings that count before and after, and whether what none matches is open
-- to everyone there.
pub record Sides : Type 0 where
  pub before : List (ℕ × Binding)
  pub after : List (ℕ × Binding)
  pub open_before : Bool
  pub open_after : Bool

abbrev pub some_in : List (ℕ × Binding) → Bool
some_in [] = false
some_in (entry ∷ rest) = true

-- those whose patterns match the names
abbrev pub sides_on : Contents → Contents → Target → Sides
sides_on before after target = record {
  before = filter (is_on target) before.entries;
  after = filter (is_on target) after.entries;
  open_before = before.everyone && not (some_in (filter (is_on target) before.entries));
  open_after = after.everyone && not (some_in (filter (is_on target) after.entries));
}

-- those that cover the principal
abbrev pub asked_by : Option (List ℕ) → Sides → Sides
asked_by principal sides = record {
  before = filter (is_for principal) sides.before;
  after = filter (is_for principal) sides.after;
  open_before = sides.open_before;
  open_after = sides.open_after;
}

-- the answer to one who is no super user
abbrev pub yes_to : Bool → List (ℕ × Binding) → Option (List ℕ) → Operation → Bool
yes_to opened asking host operation =
    not (list_any (is_met Deny host operation) asking)
    && (list_any (is_met Allow host operation) asking || opened)

abbrev pub outcome_to : Sides → Option (List ℕ) → Operation → Outcome
outcome_to sides host operation =
    outcome_of (yes_to sides.open_before sides.before host operation)
    (yes_to sides.open_after sides.after host operation)

abbrev pub same_outcome : Outcome → Outcome → Bool
same_outcome Same Same = true
same_outcome Gained Gained = true
same_outcome Lost Lost = true
same_outcome one other = false

-- whether a class is listed, by its outcome, that from other hosts, that of other principals, and
-- that of all others: where it is not said by a wider class
abbrev pub is_listed : Option (List ℕ) → Option (List ℕ) → Outcome → Outcome → Outcome → Outcome
    → Bool
is_listed None None own from_others of_others widest = not (same_outcome own Same)
is_listed (Some principal) None own from_others of_others widest = not (same_outcome own widest)
is_listed None (Some host) own from_others of_others widest = not (same_outcome own widest)
is_listed (Some principal) (Some host) own from_others of_others widest =
    not (same_outcome own from_others)
    || (same_outcome from_others widest && not (same_outcome own of_others))

-- the party is the word for all, which asks as all others do
abbrev pub names_all : List ℕ → Option (List ℕ) → Bool
names_all all (Some party) = same_text party all
names_all all None = false

abbrev pub class_of : Target → Option (List ℕ) → Option (List ℕ) → Operation → Class
class_of target principal host operation =
    record { principal = principal; host = host; operation = operation; target = target }

abbrev pub change_of : Target → Option (List ℕ) → Option (List ℕ) → Operation → Outcome → Change
change_of target principal host operation own =
    record { class = class_of target principal host operation; outcome = own }

unfoldable pub changes_to : Sides → Sides → Target → Option (List ℕ) → Option (List ℕ) → Operation
    → List Change
changes_to asked others target principal host operation =
    let own : Outcome = outcome_to asked host operation in
    if is_listed principal host own (outcome_to asked None operation)
    (outcome_to others host operation) (outcome_to others None operation)
    then change_of target principal host operation own ∷ []
    else []

unfoldable pub changes_from : Sides → Sides → Target → Option (List ℕ) → Option (List ℕ)
    → List Change
changes_from asked others target principal host =
    if names_all (codes "*") host then []
    else flat_map (changes_to asked others target principal host) operations

unfoldable pub hosts_in : Sides → List (Option (List ℕ))
hosts_in sides = fold with_host (hosts_named sides.before) sides.after

unfoldable pub principals_in : Sides → List (Option (List ℕ))
principals_in sides = fold with_principal (principals_named sides.before) sides.after

unfoldable pub changes_by : List (List ℕ) → List (List ℕ) → Sides → Target → Option (List ℕ)
    → List Change
changes_by supers_before supers_after sides target principal =
    if names_all (codes "User:*") principal
    || (is_super_party supers_before principal || is_super_party supers_after principal)
    then []
    else flat_map (changes_from (asked_by principal sides) (asked_by None sides) target principal)
    (hosts_in (asked_by principal sides))

unfoldable pub changes_on : Contents → Contents → Target → List Change
changes_on before after target =
    flat_map (changes_by before.supers after.supers (sides_on before after target) target)
    (principals_in (sides_on before after target))

-- the targets of both, each once
unfoldable pub targets_in : Contents → Contents → List Target
targets_in before after = fold with_target_of (targets_named before.entries) after.entries

-- every class whose outcome is not said by a wider class
unfoldable pub changes_of : Contents → Contents → List Change
changes_of before after = flat_map (changes_on before after) (targets_in before after)

-- What the list says.

-- it may be asked, by one who is a super user neither before nor after
pub record IsPlain (before after : Contents) (question : Question) : Type 0 where
  pub askable : IsAskable question
  pub plain_before : is_super before.supers question.principal ≡ false
  pub plain_after : is_super after.supers question.principal ≡ false

-- the change speaks of the text, or of all others
abbrev pub SpeaksOf : List ℕ → Option (List ℕ) → Type 0
SpeaksOf text (Some party) = party ≡ text
SpeaksOf text None = ⊤

-- the names of the target hold the name
pub record Tells (change : Change) (question : Question) (own : Outcome) : Type 0 where
  pub principal : SpeaksOf question.principal change.class.principal
  pub host : SpeaksOf question.host change.class.host
  pub operation : change.class.operation ≡ question.operation
  pub resource : change.class.target.resource ≡ question.resource
  pub outcome : change.outcome ≡ own

-- the list of all that changes for those who are super users neither before nor after
pub record ListsChanges (before after : Contents) (found : List Change) : Type 0 where
  pub sound : (change : Change) → Contains found change
      → outcome before after (representative (mark_of before after) change.class) ≡ change.outcome
  pub complete : (question : Question) → IsPlain before after question
      → outcome before after question ≢ Same
      → (change : Change) × (Contains found change
      × Tells change question (outcome before after question))
  pub none : ((question : Question) → IsPlain before after question
      → outcome before after question ≡ Same) → found ≡ []
