-- The lines in which a broker's log records accesses, as Kafka's authorizers write them to
-- `kafka-authorizer.log`: `Principal = PRINCIPAL is Allowed operation = OPERATION from host = HOST
-- on resource = KIND:LITERAL:NAME for request = ..`, of earlier versions `Operation = ..`, a name
-- without `LITERAL`, and no request.
use Rattle.std.specs.Prelude.{ℕ, Bool, true, false, List, [], ◌∷◌, ◌++◌, ◌+◌, ◌||◌, Option, Some, None, Result, Ok, Err, codes, if◌then◌else◌, ok_or}
use Rattle.std.specs.Str.{bytes_eq}
use Rattle.kob_names.specs.declared.kinds.Operation.{Operation}
use Rattle.kob_names.specs.declared.kinds.ResourceKind.{ResourceKind}
use Rattle.kob_script.specs.Script.{lines_in}
use Rattle.kob_script.specs.Words.{◌>>=◌, text_in}
use Rattle.kob_script.specs.declared.fault.FaultKind.{FaultKind}
use Rattle.kob_script.specs.declared.fault.FaultKind.TheVariants.{BadLine, BadWord}
use Rattle.kob_policy_text.specs.Listing.{around_first, around_last, first_parts, last_parts}
use Rattle.kob_policy_text.specs.Listing.{host_in, listed_operation, listed_resource, other_principal, user_in}
use Rattle.kob_policy_text.specs.declared.log_line.Recorded.{Recorded}
use Rattle.kob_policy_text.specs.declared.log_reading.Entry.{Entry}
use Rattle.kob_policy_text.specs.declared.question.Asker.{Asker}
use Rattle.kob_policy_text.specs.declared.question.Right.{Right}

-- the parts of a line that records an access, as they stand there
pub record AccessWords : Type 0 where
  pub principal : List ℕ
  pub outcome : List ℕ
  pub operation : List ℕ
  pub host : List ℕ
  pub resource : List ℕ

-- whatever stands before `Principal`, such as a time; it is `operation` or `Operation`
unfoldable pub access_words : List ℕ → Result AccessWords FaultKind
access_words line = do
  access ← around_first line (codes "Principal = ")
  by_operation ← around_first access.1 (codes "peration = ")
  by_outcome ← around_last by_operation.0 (codes " is ")
  by_host ← around_first by_operation.1 (codes " from host = ")
  by_resource ← around_first by_host.1 (codes " on resource = ")
  Ok (record {
    principal = by_outcome.0;
    outcome = by_outcome.1;
    operation = by_host.0;
    host = by_resource.0;
    resource = by_resource.1;
  })

-- the access was allowed; the first letter of `operation` stands behind the word
abbrev pub allowed_by : List ℕ → Result Bool FaultKind
allowed_by outcome =
    if bytes_eq outcome (codes "Allowed o") || bytes_eq outcome (codes "Allowed O") then Ok true
    else (if bytes_eq outcome (codes "Denied o") || bytes_eq outcome (codes "Denied O")
    then Ok false else Err BadLine)

abbrev pub front_by : List ℕ → Option (List ℕ × List ℕ) → List ℕ
front_by text None = text
front_by text (Some parts) = parts.0

-- what stands before the last mark, or the whole text without one
abbrev pub up_to : List ℕ → List ℕ → List ℕ
up_to mark text = front_by text (last_parts text mark)

-- without the request, and without the name of the logger, which ends a line of some formats
abbrev pub resource_alone : List ℕ → List ℕ
resource_alone text =
    up_to (codes " (kafka.authorizer.logger)") (up_to (codes " for request = ") text)

-- the name of one resource; a broker that asks whether some resource of a kind may be used records
-- `UNKNOWN`
abbrev pub one_name : List ℕ → Option (List ℕ × List ℕ) → Option (List ℕ)
one_name text None = Some text
one_name text (Some parts) =
    if bytes_eq parts.0 (codes "LITERAL") then Some parts.1
    else (if bytes_eq parts.0 (codes "UNKNOWN") then None else Some text)

abbrev pub name_in : Option (List ℕ) → Result (Option (List ℕ)) FaultKind
name_in None = Ok None
name_in (Some bytes) = text_in bytes >>= λ text. Ok (Some text)

-- a right that rules can grant
abbrev pub right_by : Option Operation → Option ResourceKind → Option (List ℕ) → Option Right
right_by (Some operation) (Some resource) (Some name) =
    Some (record { operation = operation; resource = resource; name = name })
right_by _ _ _ = None

unfoldable pub right_in : List ℕ → List ℕ → Result (Option Right) FaultKind
right_in operation resource = do
  by_kind ← around_first (resource_alone resource) (codes ":")
  asked ← ok_or (listed_operation operation) BadWord
  kind ← ok_or (listed_resource by_kind.0) BadWord
  name ← name_in (one_name by_kind.1 (first_parts by_kind.1 (codes ":")))
  Ok (right_by asked kind name)

unfoldable pub asker_in : List ℕ → List ℕ → Result Asker FaultKind
asker_in principal host = do
  user ← user_in principal
  from ← host_in host
  Ok (record { principal = user; host = from })

-- an access of a kind on which rules can bear, by a principal of the kind `User`
abbrev pub recorded_by : Bool → Asker → Option Right → Option Recorded
recorded_by allowed asker None = None
recorded_by allowed asker (Some right) =
    if bytes_eq asker.principal other_principal then None
    else Some (record { asker = asker; right = right; allowed = allowed })

unfoldable pub recorded_of : AccessWords → Result (Option Recorded) FaultKind
recorded_of words = do
  allowed ← allowed_by words.outcome
  asker ← asker_in words.principal words.host
  right ← right_in words.operation words.resource
  Ok (recorded_by allowed asker right)

-- The access that a line records, nothing for one of another kind;
-- a fault for a line that records none.
abbrev pub access_of : List ℕ → Result (Option Recorded) FaultKind
access_of line = access_words line >>= recorded_of

-- What a log records: the accesses, the lines of those of other kinds, and how many lines it has.
pub record Log : Type 0 where
  pub accesses : List Entry
  pub others : List ℕ
  pub lines : ℕ

abbrev pub no_log : Log
no_log = record { accesses = []; others = []; lines = 0 }

abbrev pub entry_at : ℕ → Recorded → Entry
entry_at number recorded = record { line = number; recorded = recorded }

abbrev pub with_access : ℕ → Log → Result (Option Recorded) FaultKind → Log
with_access number log (Ok (Some recorded)) = record log
    { accesses = log.accesses ++ entry_at number recorded ∷ []; lines = number }
with_access number log (Ok None) = record log { others = log.others ++ number ∷ []; lines = number }
with_access number log (Err kind) = record log { lines = number }

abbrev pub with_log_line : ℕ → Log → List ℕ → Log
with_log_line number log line = with_access number log (access_of line)

-- with the lines from one on, whose number is given
unfoldable pub log_from : ℕ → Log → List (List ℕ) → Log
log_from number log [] = log
log_from number log (line ∷ lines) = log_from (number + 1) (with_log_line number log line) lines

-- the lines of the text, counted from 1
abbrev pub log_of : List ℕ → Log
log_of text = log_from 1 no_log (lines_in text)
