-- The rows of each answer.
use Rattle.std.specs.Prelude.{ℕ, ◌+◌, Bool, true, false, List, [], ◌∷◌, ◌++◌, ◌==◌, Option, Some, None, codes, flat_map, length, map, if◌then◌else◌}
use Rattle.kob_authorizer.specs.Decide.{is_super, question_of}
use Rattle.kob_authorizer.specs.Decide as authorizer
use Rattle.kob_names.specs.declared.kinds.Operation.{Operation}
use Rattle.kob_names.specs.declared.kinds.Operation.TheVariants.{All}
use Rattle.kob_names.specs.declared.kinds.ResourceKind.{ResourceKind}
use Rattle.kob_names.specs.declared.kinds.ResourceKind.TheVariants.{Topic, Group, TransactionalId}
use Rattle.kob_names.specs.declared.verdict.Verdict.{Verdict}
use Rattle.kob_names.specs.declared.verdict.Verdict.TheVariants as verdict
use Rattle.kob_policy_review.specs.Below.{reaches_below}
use Rattle.kob_policy_review.specs.Granting.{answers_on}
use Rattle.kob_policy_review.specs.Holding.{holdings_of}
use Rattle.kob_policy_review.specs.Redundancy.{unused_in}
use Rattle.kob_policy_review.specs.Removal.{removable_in}
use Rattle.kob_policy_review.specs.Shadows.{shadowed_in}
use Rattle.kob_policy_review.specs.declared.below.Reach.{Reach}
use Rattle.kob_policy_review.specs.declared.below.Share.{Share}
use Rattle.kob_policy_review.specs.declared.below.Share.TheVariants as share
use Rattle.kob_policy_review.specs.declared.granting.Answer.{Answer}
use Rattle.kob_policy_review.specs.declared.holding.Holding.{Holding}
use Rattle.kob_policy_review.specs.declared.redundant.Unneeded.{Unneeded}
use Rattle.kob_policy_rows.specs.Cells.{bound_rows, party_name, target_cells, verdict_cells}
use Rattle.kob_policy_rows.specs.declared.cell.Cell.{Cell}
use Rattle.kob_policy_rows.specs.declared.cell.Cell.TheVariants.{Flag, Nothing, Number, Words}
use Rattle.kob_policy_text.specs.Access.{act_rights, question_on}
use Rattle.kob_policy_text.specs.Answers.{is_seen, topics_asked}
use Rattle.kob_policy_text.specs.AtHand.{each_once, hosts_named, names_named, principals_at_hand, principals_named}
use Rattle.kob_policy_text.specs.Hints.{is_taken}
use Rattle.kob_policy_text.specs.Holdings.{is_repeated}
use Rattle.kob_policy_text.specs.Policy.{Policy, contents_of, may}
use Rattle.kob_policy_text.specs.Reaches.{asks_as_others}
use Rattle.kob_policy_text.specs.Review.{is_told, target_at}
use Rattle.kob_policy_text.specs.Summary.{unused_count}
use Rattle.kob_policy_text.specs.declared.question.Access.{Access}
use Rattle.kob_policy_text.specs.declared.question.Asker.{Asker}
use Rattle.kob_policy_text.specs.declared.question.Question.{Question}
use Rattle.kob_policy_text.specs.declared.question.Question.TheVariants.{May, Expect, Who, WhoConsumes, WhoBelow, Rights, Sees, Summary, Unused, Shadowed, Removable}
use Rattle.kob_policy_text.specs.declared.question.Right.{Right}
use Rattle.kob_rights.specs.Table.{Check}
use Rattle.kob_words.specs.Words.{operation_name, resource_name}

-- May.

-- an operation on a resource
unfoldable pub on_cells : Operation → ResourceKind → List ℕ → List Cell
on_cells operation resource name =
    Words (operation_name operation) ∷ Words (resource_name resource) ∷ Words name ∷ []

-- a right with its answer, behind the number of its clause
unfoldable pub check_row : Policy → ℕ → authorizer.Question → List Cell
check_row policy number asked =
    Number number ∷ (on_cells asked.operation asked.resource asked.name
    ++ verdict_cells policy (may policy asked) ++ Flag (is_taken policy asked) ∷ [])

abbrev pub clause_rows : Policy → ℕ → Asker → List Check → List (List Cell)
clause_rows policy number asker clause =
    map (λ check. check_row policy number (question_on asker check)) clause

-- the clauses are numbered from 1
unfoldable pub clauses_rows : Policy → ℕ → Asker → List (List Check) → List (List Cell)
clauses_rows policy number asker [] = []
clauses_rows policy number asker (clause ∷ others) =
    clause_rows policy number asker clause ++ clauses_rows policy (number + 1) asker others

-- each right that is needed
abbrev pub access_rows : Policy → Access → List (List Cell)
access_rows policy access =
    clauses_rows policy 1 access.asker (act_rights policy.release access.act)

-- Who.

abbrev pub right_cells : Right → List Cell
right_cells right = on_cells right.operation right.resource right.name

-- what is decided on a right of a principal from a host
unfoldable pub who_row : Policy → Right → List ℕ → List ℕ → Verdict → List Cell
who_row policy right principal host verdict =
    right_cells right ++ Words principal ∷ Words host ∷ verdict_cells policy verdict

abbrev pub super_row : Policy → Right → List ℕ → List Cell
super_row policy right user = who_row policy right user (codes "*") verdict.Super

abbrev pub grant_row : Policy → Right → Answer → List Cell
grant_row policy right answer =
    who_row policy right (party_name (codes "User:*") answer.principal)
    (party_name (codes "*") answer.host) answer.verdict

abbrev pub grant_rows : Policy → Right → List Answer → Answer → List (List Cell)
grant_rows policy right answers answer =
    if is_told answers answer then grant_row policy right answer ∷ [] else []

abbrev pub told_rows : Policy → Right → List Answer → List (List Cell)
told_rows policy right answers = flat_map (grant_rows policy right answers) answers

-- super users first, then all principals and hosts to which the right is granted, each with those
-- from which a deny takes it away
abbrev pub granted_rows : Policy → Right → List (List Cell)
granted_rows policy right =
    map (super_row policy right) (each_once policy.supers)
    ++ told_rows policy right (answers_on (contents_of policy) right.operation (target_at right))

abbrev pub from_row : Policy → Right → List ℕ → List ℕ → List Cell
from_row policy right host principal =
    who_row policy right principal host
    (may policy (question_of principal host right.operation right.resource right.name))

-- the answer from one host to each principal at hand, or who is granted from every host
abbrev pub who_rows : Policy → Right → Option (List ℕ) → List (List Cell)
who_rows policy right (Some host) =
    map (from_row policy right host) (principals_at_hand policy.bindings)
who_rows policy right None = granted_rows policy right

-- Who below a prefix.

abbrev pub reach_row : Right → List ℕ → List ℕ → List ℕ → List Cell
reach_row right principal host on =
    right_cells right ++ Words principal ∷ Words host ∷ Words on ∷ []

abbrev pub super_reach : Right → List ℕ → List Cell
super_reach right user = reach_row right user (codes "*") (codes "all")

abbrev pub by_share : Share → Right → Reach → List (List Cell)
by_share share.Nothing right one = []
by_share share.Part right one =
    reach_row right (party_name (codes "User:*") one.principal) (party_name (codes "*") one.host)
    (codes "some") ∷ []
by_share share.Everything right one =
    reach_row right (party_name (codes "User:*") one.principal) (party_name (codes "*") one.host)
    (codes "all") ∷ []

abbrev pub reach_rows : Right → Reach → List (List Cell)
reach_rows right one = if asks_as_others one then [] else by_share one.share right one

abbrev pub below_rows : Policy → Right → List (List Cell)
below_rows policy right =
    map (super_reach right) (each_once policy.supers)
    ++ flat_map (reach_rows right)
    (reaches_below (contents_of policy) right.operation right.resource right.name)

-- Rights.

-- the ten operations of a request are all
abbrev pub operations_told : List Operation → List Operation
operations_told operations = if length operations == 10 then All ∷ [] else operations

unfoldable pub held_row : List ℕ → Holding → Operation → List Cell
held_row principal one operation =
    Words principal ∷ Words (party_name (codes "*") one.host) ∷ Words (operation_name operation)
    ∷ (target_cells one.target ++ Words (codes "binding") ∷ [])

abbrev pub held_rows : List ℕ → Option (List ℕ) → Holding → List (List Cell)
held_rows principal host one =
    if is_repeated host one then []
    else map (held_row principal one) (operations_told one.operations)

-- all operations on names that no row above names
unfoldable pub all_row : List ℕ → List ℕ → List Cell
all_row principal by =
    Words principal ∷ Words (codes "*") ∷ Words (operation_name All) ∷ Nothing ∷ Nothing
    ∷ Nothing ∷ Words by ∷ []

abbrev pub open_rows : List ℕ → Bool → List (List Cell)
open_rows principal true = all_row principal (codes "everyone") ∷ []
open_rows principal false = []

abbrev pub rights_rows : Policy → List ℕ → Option (List ℕ) → List (List Cell)
rights_rows policy principal host =
    if is_super policy.supers principal then all_row principal (codes "super") ∷ []
    else (flat_map (held_rows principal host) (holdings_of (contents_of policy) principal host)
    ++ open_rows principal policy.everyone)

-- Sees.

abbrev pub seen_rows : Policy → Asker → List ℕ → List (List Cell)
seen_rows policy asker topic =
    if is_seen policy asker topic then (Words topic ∷ []) ∷ [] else []

abbrev pub sees_rows : Policy → List (List ℕ) → Asker → List (List Cell)
sees_rows policy topics asker = flat_map (seen_rows policy asker) (topics_asked policy topics)

-- Summary.

abbrev pub count_of : {A : Type 0} → List A → Cell
count_of items = Number (length items)

abbrev pub parties_cells : Policy → List Cell
parties_cells policy =
    count_of (each_once policy.supers) ∷ count_of (principals_named policy.bindings)
    ∷ count_of (hosts_named policy.bindings) ∷ []

abbrev pub patterns_cells : Policy → List Cell
patterns_cells policy =
    count_of (names_named Topic policy.bindings) ∷ count_of (names_named Group policy.bindings)
    ∷ count_of (names_named TransactionalId policy.bindings) ∷ []

abbrev pub idle_cells : Policy → List Cell
idle_cells policy =
    Number (unused_count policy) ∷ count_of (shadowed_in (contents_of policy)) ∷ []

-- bindings, and whom and what they name
unfoldable pub named_cells : Policy → List Cell
named_cells policy =
    count_of policy.bindings ∷ (parties_cells policy ++ patterns_cells policy)

-- what is not read, and what does nothing
unfoldable pub other_cells : Policy → List Cell
other_cells policy = count_of policy.omissions ∷ count_of policy.skipped ∷ idle_cells policy

unfoldable pub summary_row : Policy → List Cell
summary_row policy = named_cells policy ++ other_cells policy

-- Bindings that do nothing.

abbrev pub unneeded_rows : Policy → Unneeded → List (List Cell)
unneeded_rows policy one = bound_rows policy (Some one.reason) one.serial

abbrev pub unused_rows : Policy → List (List Cell)
unused_rows policy = flat_map (unneeded_rows policy) (unused_in (contents_of policy))

abbrev pub listed_rows : Policy → List ℕ → List (List Cell)
listed_rows policy serials = flat_map (bound_rows policy None) serials

-- Each answer has its rows, by the lists that the answers in words are made of.
abbrev pub rows_of : Policy → List (List ℕ) → Question → List (List Cell)
rows_of policy topics (May access) = access_rows policy access
rows_of policy topics (Expect expected access) = access_rows policy access
rows_of policy topics (Who right host) = who_rows policy right host
rows_of policy topics (WhoConsumes topic group) =
    granted_rows policy topic ++ granted_rows policy group
rows_of policy topics (WhoBelow right) = below_rows policy right
rows_of policy topics (Rights principal host) = rights_rows policy principal host
rows_of policy topics (Sees asker) = sees_rows policy topics asker
rows_of policy topics Summary = summary_row policy ∷ []
rows_of policy topics Unused = unused_rows policy
rows_of policy topics Shadowed = listed_rows policy (shadowed_in (contents_of policy))
rows_of policy topics Removable = listed_rows policy (removable_in (contents_of policy))
