-- What a request lacked that was denied, or that named no topic or no partition that is there.
use Rattle.kob_rights.specs.Reason.{code_number}
use Rattle.kob_rights.specs.Requests.{partition_named}
use Rattle.kob_rights.specs.Table.{Check, code_on_last, rights}
use Rattle.kob_rights.specs.declared.code.Code.{Code}
use Rattle.kob_rights.specs.declared.code.Code.TheVariants.{TopicAuthorizationFailed}
use Rattle.kob_rights.specs.declared.reason.Reason.{Reason}
use Rattle.kob_rights.specs.declared.reason.Reason.TheVariants.{UnknownPartition, UnknownTopic}
use Rattle.kob_rights.specs.declared.reply.Reply.{Reply}
use Rattle.kob_rights.specs.declared.reply.Reply.TheVariants.{Denied, Refused, Done}
use Rattle.kob_rights.specs.declared.request.Request.{Request}
use Rattle.kob_words.specs.Words.{bytes_text, operation_name, resource_name}
use Rattle.std.specs.Fmt.{decimal}
use Rattle.std.specs.Prelude.{ℕ, ◌==◌, Bool, List, [], ◌∷◌, ◌++◌, Option, Some, None, codes, if◌then◌else◌}

abbrev pub has_code : Code → List Check → Bool
has_code code clause = code_number (code_on_last TopicAuthorizationFailed clause) == code_number code

-- the alternatives of which none is granted: the first ones whose denial has this code
abbrev pub lacked : Code → List (List Check) → List Check
lacked code [] = []
lacked code (clause ∷ clauses) = if has_code code clause then clause else lacked code clauses

-- OPERATION RESOURCE NAME
abbrev pub check_text : Check → List ℕ
check_text check =
    operation_name check.operation ++ codes " " ++ resource_name check.resource
    ++ codes " " ++ bytes_text check.name

abbrev pub others_text : List Check → List ℕ
others_text [] = []
others_text (check ∷ checks) = codes " or " ++ check_text check ++ others_text checks

abbrev pub needs_text : List Check → List ℕ
needs_text [] = []
needs_text (check ∷ checks) = codes "needs " ++ check_text check ++ others_text checks

-- a name behind a text
abbrev pub named : List ℕ → List ℕ → List ℕ
named before name = before ++ bytes_text name

abbrev pub no_topic : List ℕ → List ℕ
no_topic topic = named (codes "no topic ") topic

abbrev pub no_partition : List ℕ → ℕ → List ℕ
no_partition topic partition =
    (codes "no partition " ++ decimal partition) ++ named (codes " of topic ") topic

-- the topic, or the partition of it, that is not there
abbrev pub absence_text : Reason → List ℕ × ℕ → List ℕ
absence_text UnknownTopic named = no_topic named.0
absence_text UnknownPartition named = no_partition named.0 named.1
absence_text reason named = []

-- nothing where the request needs no partition to be there
abbrev pub absent_text : Reason → Option (List ℕ × ℕ) → List ℕ
absent_text reason None = []
absent_text reason (Some named) = absence_text reason named

-- what a request lacked, by the reply to it: nothing if it is done
abbrev pub needs_of : Request → Reply → List ℕ
needs_of request (Denied code verdicts) = needs_text (lacked code (rights request))
needs_of request (Refused code reason) = absent_text reason (partition_named request)
needs_of request (Done body) = []

-- the same on a line of the trace, and in the line of an answer
abbrev pub noted : List ℕ → List ℕ
noted [] = []
noted (byte ∷ text) = codes "> # " ++ (byte ∷ text) ++ codes "\n"

abbrev pub behind : List ℕ → List ℕ
behind [] = []
behind (byte ∷ text) = codes " " ++ byte ∷ text
