-- How answers are printed.
use Rattle.std.specs.Prelude.{ℕ, Bool, true, false, List, [], ◌∷◌, ◌++◌, flat_map, Option, Some, None, codes, slice_get, unwrap_or, if◌then◌else◌}
use Rattle.std.specs.Fmt.{decimal}
use Rattle.kob_authorizer.specs.Decide.{question_of}
use Rattle.kob_authorizer.specs.Decide as authorizer
use Rattle.kob_names.specs.Binding.{Binding, is_granted}
use Rattle.kob_names.specs.declared.kinds.Operation.TheVariants.{Describe}
use Rattle.kob_names.specs.declared.kinds.ResourceKind.TheVariants.{Topic}
use Rattle.kob_names.specs.declared.verdict.Verdict.{Verdict}
use Rattle.kob_script.specs.Printed.{verdict_text}
use Rattle.kob_words.specs.Words.{operation_name, resource_name, bytes_text}
use Rattle.kob_policy_text.specs.AtHand.{topics_named}
use Rattle.kob_policy_text.specs.declared.item.LeftOut.{LeftOut}
use Rattle.kob_policy_text.specs.declared.item.LeftOut.TheVariants as left_out
use Rattle.kob_policy_text.specs.declared.origin.Omission.{Omission}
use Rattle.kob_policy_text.specs.declared.origin.Origin.{Origin}
use Rattle.kob_policy_text.specs.declared.question.Asker.{Asker}
use Rattle.kob_policy_text.specs.declared.question.Right.{Right}
use Rattle.kob_policy_text.specs.Quoted.{binding_text, name_text}
use Rattle.kob_policy_text.specs.Policy.{deciding, is_yes, may, place_of, serials_of, Policy}
use Rattle.kob_policy_text.specs.Remarks.{below_line, has_none}

-- FILE:LINE
abbrev pub origin_text : Origin → List ℕ
origin_text origin = bytes_text origin.file ++ codes ":" ++ decimal origin.line

-- the words of scripts, behind `yes` or `no`
abbrev pub yes_or_no : Bool → List ℕ
yes_or_no true = codes "yes"
yes_or_no false = codes "no"

abbrev pub answer_text : Verdict → List ℕ
answer_text verdict = yes_or_no (is_granted verdict) ++ codes " " ++ verdict_text verdict

-- where a binding stands, behind a blank
abbrev pub origin_behind : Option Origin → List ℕ
origin_behind None = []
origin_behind (Some origin) = codes " " ++ origin_text origin

-- the first origin of the binding with a serial
abbrev pub origin_at : Policy → Option ℕ → Option Origin
origin_at policy None = None
origin_at policy (Some place) = slice_get policy.origins place

abbrev pub origin_by : Policy → Option ℕ → Option Origin
origin_by policy None = None
origin_by policy (Some serial) = origin_at policy (place_of policy serial)

-- an answer, and from where the binding comes that decides
abbrev pub reason_text : Policy → Verdict → List ℕ
reason_text policy verdict =
    answer_text verdict ++ origin_behind (origin_by policy (deciding verdict))

-- a binding with its serial and its origin, on a line of its own
abbrev pub binding_line : ℕ → Binding → Option Origin → List ℕ
binding_line serial binding origin =
    codes "  " ++ binding_text serial binding ++ origin_behind origin ++ codes "\n"

abbrev pub line_of : Policy → ℕ → Option Binding → List ℕ
line_of policy place None = []
line_of policy place (Some binding) =
    binding_line (unwrap_or (slice_get (serials_of policy) place) 0) binding
    (slice_get policy.origins place)

-- the line of the binding at a place
abbrev pub line_at : Policy → Option ℕ → List ℕ
line_at policy None = []
line_at policy (Some place) = line_of policy place (slice_get policy.bindings place)

abbrev pub line_by : Policy → Option ℕ → List ℕ
line_by policy None = []
line_by policy (Some serial) = line_at policy (place_of policy serial)

-- an answer, and below it the binding that decides
abbrev pub may_text : Policy → Verdict → List ℕ
may_text policy verdict =
    codes "  " ++ answer_text verdict ++ codes "\n" ++ line_by policy (deciding verdict)

-- OPERATION RESOURCE NAME
abbrev pub right_text : authorizer.Question → List ℕ
right_text asked =
    operation_name asked.operation ++ codes " " ++ resource_name asked.resource ++ codes " "
    ++ name_text asked.name

unfoldable pub who_line : Policy → Right → List ℕ → List ℕ → List ℕ
who_line policy right host principal =
    codes "  " ++ name_text principal ++ codes " " ++ reason_text policy
    (may policy (question_of principal host right.operation right.resource right.name))
    ++ codes "\n"

-- a principal may describe a topic
abbrev pub is_seen : Policy → Asker → List ℕ → Bool
is_seen policy asker topic =
    is_yes policy (question_of asker.principal asker.host Describe Topic topic)

abbrev pub topic_text : List ℕ → List ℕ
topic_text topic = codes " " ++ name_text topic

-- a topic that a principal may describe, and nothing for another one
abbrev pub seen_text : Policy → Asker → List ℕ → List ℕ
seen_text policy asker topic = if is_seen policy asker topic then topic_text topic else []

-- the given topics, or those that the bindings name where none is given
abbrev pub topics_asked : Policy → List (List ℕ) → List (List ℕ)
topics_asked policy [] = topics_named policy.bindings
topics_asked policy (first ∷ rest) = first ∷ rest

abbrev pub seen_texts : Policy → List (List ℕ) → Asker → List ℕ
seen_texts policy topics asker =
    flat_map (seen_text policy asker) (topics_asked policy topics)

abbrev pub sees_text : Policy → List (List ℕ) → Asker → List ℕ
sees_text policy topics asker =
    codes "  topics" ++ seen_texts policy topics asker ++ codes "\n"
    ++ below_line policy asker.principal (has_none (seen_texts policy topics asker))

abbrev pub left_out_word : LeftOut → List ℕ
left_out_word left_out.Resource = codes "resource"
left_out_word left_out.Principal = codes "principal"
left_out_word left_out.Operation = codes "operation"

-- without a deny, an answer may be yes where the cluster's is no
abbrev pub denial_text : Bool → List ℕ
denial_text true = codes ", a deny: a yes may be wrong\n"
denial_text false = codes "\n"

unfoldable pub omission_line : Omission → List ℕ
omission_line omission =
    codes "left out" ++ origin_behind (Some omission.origin) ++ codes " " ++ left_out_word omission.what
    ++ denial_text omission.denies

-- what was left out
abbrev pub omissions_text : Policy → List ℕ
omissions_text policy = flat_map omission_line policy.omissions
