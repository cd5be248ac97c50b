-- What is answered to each principal and host on some names.
use Rattle.std.specs.Prelude.{◌≡◌, Bool, false, List, [], ℕ, ◌&&◌, not, Option, Contains, find, flat_map, map, if◌then◌else◌}
use Rattle.std.specs.List.{filter}
use Rattle.std.specs.Option.{option_map}
use Rattle.kob_names.specs.Binding.{Binding}
use Rattle.kob_names.specs.declared.kinds.Operation.{Operation}
use Rattle.kob_names.specs.declared.kinds.Permission.{Permission}
use Rattle.kob_names.specs.declared.kinds.Permission.TheVariants.{Allow, Deny}
use Rattle.kob_names.specs.declared.verdict.Verdict.{Verdict}
use Rattle.kob_authorizer.specs.Decide.{Contents, Question, decide, is_match, is_super, unless_open, verdict_of}
use Rattle.kob_policy_review.specs.Alike.{spare}
use Rattle.kob_policy_review.specs.Classes.{hosts_named, is_for, is_met, is_on, principals_named, representative}
use Rattle.kob_policy_review.specs.Difference.{SpeaksOf, class_of, some_in}
use Rattle.kob_policy_review.specs.Needed.{is_super_party}
use Rattle.kob_policy_review.specs.declared.granting.Answer.{Answer}
use Rattle.kob_policy_review.specs.declared.class.Target.{Target}

-- the serial of the first entry that is met
abbrev pub first_met : Permission → Option (List ℕ) → Operation → List (ℕ × Binding) → Option ℕ
first_met permission host operation asking =
    option_map (λ (entry : ℕ × Binding). entry.0)
    (find (is_met permission host operation) asking)

-- the verdict on one who is no super user
abbrev pub verdict_by : Bool → Option ℕ → Option ℕ → Verdict
verdict_by opened deny allow = unless_open opened (verdict_of false deny allow)

unfoldable pub answer_at : Bool → List (ℕ × Binding) → Operation → Option (List ℕ)
    → Option (List ℕ) → Answer
answer_at opened asking operation principal host = record {
  principal = principal;
  host = host;
  verdict = verdict_by opened (first_met Deny host operation asking)
      (first_met Allow host operation asking);
}

unfoldable pub answers_by : List (List ℕ) → Bool → List (ℕ × Binding) → Operation
    → Option (List ℕ) → List Answer
answers_by supers opened matching operation principal =
    if is_super_party supers principal then []
    else map (answer_at opened (filter (is_for principal) matching) operation principal)
    (hosts_named (filter (is_for principal) matching))

-- whether what no binding matches is open there
abbrev pub is_open_on : Contents → Target → Bool
is_open_on rules target =
    rules.everyone && not (some_in (filter (is_on target) rules.entries))

unfoldable pub answers_on : Contents → Operation → Target → List Answer
answers_on rules operation target =
    flat_map (answers_by rules.supers (is_open_on rules target)
    (filter (is_on target) rules.entries) operation)
    (principals_named (filter (is_on target) rules.entries))

-- the patterns in force match the name that is asked for as they match the names of the target
pub record IsOnTarget (rules : Contents) (target : Target) (question : Question) : Type 0 where
  pub same : (entry : ℕ × Binding) → Contains rules.entries entry
      → is_on target entry ≡ is_match question entry

-- each answer is the decision on its representative, and each decision is given by an answer, but
-- for super users, to whom all is granted
pub record ListsAnswers (rules : Contents) (operation : Operation) (target : Target)
    (found : List Answer) : Type 0 where
  pub sound : (answer : Answer) → Contains found answer
      → decide rules (representative (spare rules)
      (class_of target answer.principal answer.host operation)) ≡ answer.verdict
  pub complete : (question : Question) → IsOnTarget rules target question
      → question.operation ≡ operation → is_super rules.supers question.principal ≡ false
      → (answer : Answer) × (Contains found answer
      × (SpeaksOf question.principal answer.principal
      × (SpeaksOf question.host answer.host × (answer.verdict ≡ decide rules question))))
