-- How answers over all principals, hosts and names are printed, and all answers in their order.
use Rattle.std.specs.Prelude.{ℕ, ◌&&◌, ◌||◌, not, Bool, true, false, List, [], ◌++◌, Option, Some, None, codes, flat_map, if◌then◌else◌}
use Rattle.std.specs.Fmt.{decimal}
use Rattle.std.specs.List.{list_any}
use Rattle.kob_authorizer.specs.Decide.{is_super}
use Rattle.kob_names.specs.Binding.{is_granted}
use Rattle.kob_names.specs.Same.{same_text}
use Rattle.kob_names.specs.declared.verdict.Verdict.{Verdict}
use Rattle.kob_names.specs.declared.verdict.Verdict.TheVariants as verdict
use Rattle.kob_policy_review.specs.Classes.{target}
use Rattle.kob_policy_review.specs.Difference.{changes_of, names_all}
use Rattle.kob_policy_review.specs.Granting.{answers_on}
use Rattle.kob_policy_review.specs.Redundancy.{unused_in}
use Rattle.kob_policy_review.specs.Removal.{removable_in}
use Rattle.kob_policy_review.specs.Shadows.{shadowed_in}
use Rattle.kob_policy_review.specs.declared.class.Class.{Class}
use Rattle.kob_policy_review.specs.declared.class.Names.TheVariants.{Exactly}
use Rattle.kob_policy_review.specs.declared.class.Target.{Target}
use Rattle.kob_policy_review.specs.declared.granting.Answer.{Answer}
use Rattle.kob_policy_review.specs.declared.difference.Change.{Change}
use Rattle.kob_policy_review.specs.declared.difference.Outcome.{Outcome}
use Rattle.kob_policy_review.specs.declared.difference.Outcome.TheVariants.{Same, Gained, Lost}
use Rattle.kob_policy_review.specs.declared.redundant.Reason.{Reason}
use Rattle.kob_policy_review.specs.declared.redundant.Reason.TheVariants.{CoveredBy, DeniedBy, Super, Together}
use Rattle.kob_policy_review.specs.declared.redundant.Unneeded.{Unneeded}
use Rattle.kob_policy_text.specs.Access.{access_text, expect_text}
use Rattle.kob_policy_text.specs.Answers.{line_at, line_by, reason_text, sees_text, who_line}
use Rattle.kob_policy_text.specs.AtHand.{each_once, principals_at_hand}
use Rattle.kob_policy_text.specs.Holdings.{holdings_text}
use Rattle.kob_policy_text.specs.Parties.{names_text, party_text, super_grant}
use Rattle.kob_policy_text.specs.Numbered.{numbered}
use Rattle.kob_policy_text.specs.Policy.{Policy, contents_of, place_of}
use Rattle.kob_policy_text.specs.Reaches.{reaches_text}
use Rattle.kob_policy_text.specs.Summary.{summary_text}
use Rattle.kob_policy_text.specs.Questions.{Questions}
use Rattle.kob_policy_text.specs.Remarks.{on_right, or_none, taking_text}
use Rattle.kob_policy_text.specs.declared.question.Query.{Query}
use Rattle.kob_policy_text.specs.declared.question.Question.{Question}
use Rattle.kob_policy_text.specs.declared.question.Question.TheVariants.{May, Expect, Who, WhoConsumes, WhoBelow, Rights, Sees, Summary, Unused, Shadowed, Removable}
use Rattle.kob_policy_text.specs.declared.question.Right.{Right}
use Rattle.kob_words.specs.Words.{operation_name, resource_name}
use Rattle.kob_policy_text.specs.Quoted.{name_text}

-- why no answer needs a binding
abbrev pub why_text : Reason → List ℕ
why_text Super = codes "    its principal is a super user\n"
why_text (CoveredBy serial) = codes "    covered by " ++ decimal serial ++ codes "\n"
why_text (DeniedBy serial) = codes "    denied by " ++ decimal serial ++ codes "\n"
why_text Together = codes "    covered by several, or nothing to deny\n"

-- nothing is printed of what a left out binding closes
abbrev pub unneeded_at : Policy → Reason → Option ℕ → List ℕ
unneeded_at policy reason None = []
unneeded_at policy reason (Some place) = line_at policy (Some place) ++ why_text reason

unfoldable pub unneeded_text : Policy → Unneeded → List ℕ
unneeded_text policy one = unneeded_at policy one.reason (place_of policy one.serial)

-- the bindings without which, each taken alone, no answer at all changes
abbrev pub unused_text : Policy → List ℕ
unused_text policy =
    or_none (flat_map (unneeded_text policy) (unused_in (contents_of policy)))

-- nothing is printed of what a left out binding closes
unfoldable pub listed_line : Policy → ℕ → List ℕ
listed_line policy serial = line_by policy (Some serial)

-- bindings by their serials
abbrev pub listed_text : Policy → List ℕ → List ℕ
listed_text policy serials = or_none (flat_map (listed_line policy) serials)

-- the allows that a deny always beats
abbrev pub shadowed_text : Policy → List ℕ
shadowed_text policy = listed_text policy (shadowed_in (contents_of policy))

-- the bindings that may go together
abbrev pub removable_text : Policy → List ℕ
removable_text policy = listed_text policy (removable_in (contents_of policy))

-- the names of the right alone
abbrev pub target_at : Right → Target
target_at right = target right.resource (Exactly right.name)

-- all others, or the same one
abbrev pub speaks_for : Option (List ℕ) → Option (List ℕ) → Bool
speaks_for None party = true
speaks_for (Some one) None = false
speaks_for (Some one) (Some party) = same_text one party

-- a yes that is said of a principal and a host also where a deny says no
abbrev pub is_yes_for : Answer → Answer → Bool
is_yes_for answer other =
    is_granted other.verdict
    && (speaks_for other.principal answer.principal && speaks_for other.host answer.host)

-- a deny takes away what another answer grants
abbrev pub is_taken_away : Verdict → List Answer → Answer → Bool
is_taken_away (verdict.DeniedBy serial) answers answer = list_any (is_yes_for answer) answers
is_taken_away verdict.Super answers answer = false
is_taken_away (verdict.AllowedBy serial) answers answer = false
is_taken_away verdict.NoAllow answers answer = false
is_taken_away verdict.NoAclFound answers answer = false

-- a yes, or a no that is an exception to one; the words for all ask as all others do
abbrev pub is_told : List Answer → Answer → Bool
is_told answers answer =
    (is_granted answer.verdict || is_taken_away answer.verdict answers answer)
    && not (names_all (codes "User:*") answer.principal || names_all (codes "*") answer.host)

-- what is decided for a principal at a host, and by which binding
unfoldable pub grant_line : Policy → Answer → List ℕ
grant_line policy answer =
    codes "  " ++ party_text (codes "User:* (others)") answer.principal ++ codes " "
    ++ party_text (codes "* (others)") answer.host ++ codes " "
    ++ reason_text policy answer.verdict ++ codes "\n"

abbrev pub grant_if_told : Policy → List Answer → Answer → List ℕ
grant_if_told policy answers answer =
    if is_told answers answer then grant_line policy answer else []

abbrev pub told_text : Policy → List Answer → List ℕ
told_text policy answers = flat_map (grant_if_told policy answers) answers

-- super users first, then all principals and hosts to which the right is granted, each with those
-- from which a deny takes it away
abbrev pub who_list : Policy → Right → List ℕ
who_list policy right =
    on_right policy right (flat_map super_grant (each_once policy.supers)
    ++ told_text policy (answers_on (contents_of policy) right.operation (target_at right)))

-- the answer from one host to each principal at hand, or who is granted it from every host
abbrev pub who_text : Policy → Right → Option (List ℕ) → List ℕ
who_text policy right (Some host) =
    flat_map (who_line policy right host) (principals_at_hand policy.bindings)
    ++ taking_text policy right
who_text policy right None = who_list policy right

-- OPERATION RESOURCE NAME, above those who may
unfoldable pub right_line : Right → List ℕ
right_line right =
    codes "  " ++ operation_name right.operation ++ codes " " ++ resource_name right.resource
    ++ codes " " ++ name_text right.name ++ codes "\n"

abbrev pub grants_text : Policy → Right → List ℕ
grants_text policy right = right_line right ++ who_list policy right

-- who may read the topic, and then who may read as the group
abbrev pub consumers_text : Policy → Right → Right → List ℕ
consumers_text policy topic group = grants_text policy topic ++ grants_text policy group

-- OPERATION RESOURCE NAME
unfoldable pub target_text : Class → List ℕ
target_text class =
    operation_name class.operation ++ codes " " ++ resource_name class.target.resource
    ++ codes " " ++ names_text class.target.names

abbrev pub outcome_text : Outcome → List ℕ
outcome_text Gained = codes " no -> yes\n"
outcome_text Lost = codes " yes -> no\n"
outcome_text Same = codes " unchanged\n"

-- who asks, from where, for what, and what becomes of the answer
unfoldable pub change_line : Change → List ℕ
change_line change =
    party_text (codes "User:* (others)") change.class.principal ++ codes " "
    ++ party_text (codes "* (others)") change.class.host ++ codes " "
    ++ target_text change.class ++ outcome_text change.outcome

-- a super user on one side alone
unfoldable pub super_line : List ℕ → List (List ℕ) → List ℕ → List ℕ
super_line what others user =
    if is_super others user then [] else codes "super " ++ name_text user ++ what

abbrev pub supers_text : Policy → Policy → List ℕ
supers_text before after =
    flat_map (super_line (codes " removed\n") after.supers) before.supers
    ++ flat_map (super_line (codes " added\n") before.supers) after.supers

abbrev pub everyone_text : Bool → Bool → List ℕ
everyone_text false true = codes "everyone off -> on\n"
everyone_text true false = codes "everyone on -> off\n"
everyone_text before after = []

-- what changes: super users, who is let in where no binding matches, and each answer
abbrev pub changes_text : Policy → Policy → List ℕ
changes_text before after =
    supers_text before after ++ everyone_text before.everyone after.everyone
    ++ flat_map change_line (changes_of (contents_of before) (contents_of after))

-- the answer to a question, with the names of topics that are given
abbrev pub question_text : Policy → List (List ℕ) → Question → List ℕ
question_text policy topics (May access) = access_text policy access
question_text policy topics (Expect expected access) = expect_text policy expected access
question_text policy topics (Who right host) = who_text policy right host
question_text policy topics (WhoConsumes topic group) = consumers_text policy topic group
question_text policy topics (WhoBelow right) = reaches_text policy right
question_text policy topics (Rights principal host) = holdings_text policy principal host
question_text policy topics (Sees asker) = sees_text policy topics asker
question_text policy topics Summary = summary_text policy
question_text policy topics Unused = unused_text policy
question_text policy topics Shadowed = shadowed_text policy
question_text policy topics Removable = removable_text policy

-- a question as it was asked, behind its number, and below it the answer
abbrev pub answer_line : Policy → List (List ℕ) → ℕ → Query → List ℕ
answer_line policy topics number query =
    decimal number ++ codes " " ++ query.text ++ codes "\n"
    ++ question_text policy topics query.question

-- the answers, numbered from one on
abbrev pub answers_text : Policy → List (List ℕ) → ℕ → List Query → List ℕ
answers_text policy topics number queries = numbered (answer_line policy topics) number queries

-- what changes, and then the answers of the second policy
abbrev pub review_text : Policy → Policy → Questions → List ℕ
review_text before after questions =
    changes_text before after
    ++ answers_text after questions.topics 1 questions.asked
