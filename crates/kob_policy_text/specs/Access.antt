-- What a principal asks to do: the rights that it needs, and the answer.
use Rattle.std.specs.Prelude.{◌≡◌, ◌↔◌, ◌⊎◌, ◌+◌, ℕ, not, Bool, true, false, List, [], ◌∷◌, ◌++◌, codes, flat_map}
use Rattle.std.specs.Fmt.{decimal}
use Rattle.std.specs.List.{list_all, list_any}
use Rattle.kob_authorizer.specs.Decide.{question_of}
use Rattle.kob_authorizer.specs.Decide as authorizer
use Rattle.kob_names.specs.declared.kinds.Operation.TheVariants.{IdempotentWrite, Write}
use Rattle.kob_names.specs.declared.kinds.ResourceKind.TheVariants.{TransactionalId}
use Rattle.kob_rights.specs.Table.{Check, on_cluster, on_topic, rights}
use Rattle.kob_policy_text.specs.Answers.{may_text, reason_text, right_text, yes_or_no}
use Rattle.kob_policy_text.specs.Hints.{unnamed_text, untaken_text}
use Rattle.kob_policy_text.specs.Policy.{Policy, is_yes, may}
use Rattle.kob_policy_text.specs.declared.question.Access.{Access}
use Rattle.kob_policy_text.specs.declared.question.Act.{Act}
use Rattle.kob_policy_text.specs.declared.question.Act.TheVariants as act
use Rattle.kob_policy_text.specs.declared.question.Asker.{Asker}
use Rattle.kob_policy_text.specs.declared.question.Query.{Query}
use Rattle.kob_policy_text.specs.declared.question.Question.{Question}
use Rattle.kob_policy_text.specs.declared.question.Question.TheVariants.{May, Expect, Who, WhoConsumes, WhoBelow, Rights, Sees, Summary, Unused, Shadowed, Removable}
use Rattle.kob_policy_text.specs.declared.question.Right.{Right}
use Rattle.kob_policy_text.specs.declared.release.Release.{Release}
use Rattle.kob_policy_text.specs.declared.release.Release.TheVariants.{Before28, Since28}

-- The rights of an idempotent producer: IdempotentWrite on the cluster, or since Kafka 2.8 Write on
-- some topic in place of it (KIP-679), such as the one that it writes to; and Write on that one.
abbrev pub idempotent_rights : Release → List ℕ → List (List Check)
idempotent_rights Before28 topic =
    (on_cluster IdempotentWrite ∷ []) ∷ (on_topic Write topic ∷ []) ∷ []
idempotent_rights Since28 topic =
    (on_cluster IdempotentWrite ∷ on_topic Write topic ∷ []) ∷ (on_topic Write topic ∷ []) ∷ []

abbrev pub on_transaction : List ℕ → Check
on_transaction id = record { operation = Write; resource = TransactionalId; name = id }

abbrev pub transactional_rights : List ℕ → List ℕ → List (List Check)
transactional_rights topic id = (on_transaction id ∷ []) ∷ (on_topic Write topic ∷ []) ∷ []

abbrev pub check_of : Right → Check
check_of right =
    record { operation = right.operation; resource = right.resource; name = right.name }

-- the rights that an act needs, of each clause one
abbrev pub act_rights : Release → Act → List (List Check)
act_rights release (act.Right right) = (check_of right ∷ []) ∷ []
act_rights release (act.Request request) = rights request
act_rights release (act.Idempotent topic) = idempotent_rights release topic
act_rights release (act.Transactional topic id) = transactional_rights topic id

abbrev pub question_on : Asker → Check → authorizer.Question
question_on asker check =
    question_of asker.principal asker.host check.operation check.resource check.name

-- each clause has an alternative that is granted
abbrev pub is_clause_met : Policy → Asker → List Check → Bool
is_clause_met policy asker clause =
    list_any (λ check. is_yes policy (question_on asker check)) clause

abbrev pub are_met : Policy → Asker → List (List Check) → Bool
are_met policy asker clauses = list_all (is_clause_met policy asker) clauses

-- the answer to `may` is yes
abbrev pub is_allowed : Policy → Access → Bool
is_allowed policy access = are_met policy access.asker (act_rights policy.release access.act)

-- a right with its answer, behind the number of its clause
unfoldable pub check_line : Policy → ℕ → authorizer.Question → List ℕ
check_line policy number asked =
    codes "  " ++ decimal number ++ codes " " ++ right_text asked ++ codes " "
    ++ reason_text policy (may policy asked) ++ codes "\n"

unfoldable pub check_text : Policy → ℕ → authorizer.Question → List ℕ
check_text policy number asked =
    check_line policy number asked ++ untaken_text policy (may policy asked) asked

abbrev pub clause_text : Policy → ℕ → Asker → List Check → List ℕ
clause_text policy number asker clause =
    flat_map (λ check. check_text policy number (question_on asker check)) clause

-- the clauses are numbered from 1
unfoldable pub clauses_text : Policy → ℕ → Asker → List (List Check) → List ℕ
clauses_text policy number asker [] = []
clauses_text policy number asker (clause ∷ others) =
    clause_text policy number asker clause ++ clauses_text policy (number + 1) asker others

-- yes or no, and then each clause with its answers
abbrev pub rights_text : Policy → Asker → List (List Check) → List ℕ
rights_text policy asker clauses =
    codes "  " ++ yes_or_no (are_met policy asker clauses) ++ codes "\n"
    ++ clauses_text policy 1 asker clauses

-- one right, with the binding that decides below it
abbrev pub right_answer : Policy → authorizer.Question → List ℕ
right_answer policy asked =
    may_text policy (may policy asked) ++ untaken_text policy (may policy asked) asked

abbrev pub act_text : Policy → Asker → Act → List ℕ
act_text policy asker (act.Right right) =
    right_answer policy (question_on asker (check_of right))
act_text policy asker (act.Request request) = rights_text policy asker (rights request)
act_text policy asker (act.Idempotent topic) =
    rights_text policy asker (idempotent_rights policy.release topic)
act_text policy asker (act.Transactional topic id) =
    rights_text policy asker (transactional_rights topic id)

abbrev pub access_text : Policy → Access → List ℕ
access_text policy access = act_text policy access.asker access.act
    ++ unnamed_text policy (is_allowed policy access) access.asker.principal

-- the answer is the other one than is expected
abbrev pub is_other_answer : Bool → Bool → Bool
is_other_answer true allowed = not allowed
is_other_answer false allowed = allowed

-- An expectation fails exactly if the answer to its `may` is the other one.
-- No other question fails.
abbrev pub fails : Policy → Question → Bool
fails policy (Expect expected access) = is_other_answer expected (is_allowed policy access)
fails policy (May access) = false
fails policy (Who right host) = false
fails policy (WhoConsumes topic group) = false
fails policy (WhoBelow right) = false
fails policy (Rights principal host) = false
fails policy (Sees asker) = false
fails policy Summary = false
fails policy Unused = false
fails policy Shadowed = false
fails policy Removable = false

-- some expectation fails
abbrev pub any_fails : Policy → List Query → Bool
any_fails policy queries = list_any (λ query. fails policy query.question) queries

abbrev pub outcome_of_expected : Bool → List ℕ
outcome_of_expected true = codes "  not as expected\n"
outcome_of_expected false = codes "  as expected\n"

-- the answer, and below it whether it is as expected
abbrev pub expect_text : Policy → Bool → Access → List ℕ
expect_text policy expected access = access_text policy access
    ++ outcome_of_expected (is_other_answer expected (is_allowed policy access))

-- What Kafka asks of an idempotent producer since 2.8 (KIP-679): IdempotentWrite on the cluster or
-- Write on at least one topic when it starts, and Write on the topic of each batch.
abbrev pub IsGranted : Policy → Asker → Check → Type 0
IsGranted policy asker check = is_yes policy (question_on asker check) ≡ true

abbrev pub WritesSomewhere : Policy → Asker → Type 0
WritesSomewhere policy asker = (topic : List ℕ) × IsGranted policy asker (on_topic Write topic)

abbrev pub MayStart : Policy → Asker → Type 0
MayStart policy asker =
    IsGranted policy asker (on_cluster IdempotentWrite) ⊎ WritesSomewhere policy asker

abbrev pub MayProduceIdempotently : Policy → Asker → List ℕ → Type 0
MayProduceIdempotently policy asker topic =
    MayStart policy asker × IsGranted policy asker (on_topic Write topic)

abbrev pub idempotently : Asker → List ℕ → Access
idempotently asker topic = record { asker = asker; act = act.Idempotent topic }

-- the answer is yes exactly where such brokers grant it
abbrev pub IsAsKafkaSince28 : Policy → Type 0
IsAsKafkaSince28 policy =
    policy.release ≡ Since28 → (asker : Asker) (topic : List ℕ)
    → (is_allowed policy (idempotently asker topic) ≡ true)
    ↔ MayProduceIdempotently policy asker topic
