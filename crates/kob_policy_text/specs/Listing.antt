-- Principals of the kind `User`, and those of other kinds, which are left out.
use Rattle.std.specs.Prelude.{Bool, false, not, ℕ, List, Option, Some, None, Result, Ok, Err, codes, is_none, if◌then◌else◌, ◌+◌, drop, take, length, is_some, ok_or, unwrap_or, [], ◌||◌, nat_eq}
use Rattle.std.specs.List.{position, before_first, starts_with}
use Rattle.std.specs.Str.{bytes_eq, str_eq_ignore_ascii_case}
use Rattle.kob_names.specs.TextRules.{is_colon}
use Rattle.kob_script.specs.declared.fault.FaultKind.{FaultKind}
use Rattle.kob_script.specs.Words.{◌>>=◌, text_in, principal_of, host_of}
use Rattle.std.specs.Char.{is_whitespace}
use Rattle.std.specs.Option.{option_map}
use Rattle.bstr.specs.Trim.{trim_start_by, trim_end_by}
use Rattle.memchr.specs.Find.{first_of, matches, rmatches}
use Rattle.kob_script.specs.declared.fault.FaultKind.TheVariants.{BadLine, BadWord}
use Rattle.kob_names.specs.declared.kinds.Operation.{Operation}
use Rattle.kob_names.specs.declared.kinds.Operation.TheVariants.{All, ClusterAction, DescribeConfigs, AlterConfigs, IdempotentWrite}
use Rattle.kob_names.specs.declared.kinds.PatternKind.{PatternKind}
use Rattle.kob_names.specs.declared.kinds.ResourceKind.{ResourceKind}
use Rattle.kob_names.specs.declared.kinds.ResourceKind.TheVariants.{TransactionalId}
use Rattle.kob_words.specs.Words.{operation_named, resource_named, pattern_named, permission_named}
use Rattle.kob_policy_text.specs.declared.item.Grant.{Grant}
use Rattle.kob_policy_text.specs.declared.item.Item.{Item}
use Rattle.kob_policy_text.specs.declared.item.LeftOut as kinds
use Rattle.kob_policy_text.specs.declared.item.Target.{Target}
use Rattle.kob_names.specs.Binding.{Binding}
use Rattle.kob_policy_text.specs.declared.item.Item.TheVariants as item
use Rattle.kob_policy_text.specs.declared.item.LeftOut.TheVariants as left_out

-- the text before the first colon is another kind than `User`
abbrev pub is_other_kind : List ℕ → Bool
is_other_kind text =
    if is_none (position is_colon text) then false
    else not (bytes_eq (before_first is_colon text) (codes "User"))

-- A binding that this product does not support has one of these names in place of the part that is
-- not supported, up to the policy, which leaves it out. No cluster has such names.

abbrev pub other_principal : List ℕ
other_principal = codes "User:(another kind of principal)"

abbrev pub other_operation : List ℕ
other_operation = codes "User:(another operation)"

abbrev pub other_resource : List ℕ
other_resource = codes "(another kind of resource)"

-- why a binding is left out, if it is
abbrev pub left_out_of : Binding → Option kinds.LeftOut
left_out_of draft =
    if bytes_eq draft.pattern.name other_resource then Some left_out.Resource
    else (if bytes_eq draft.principal other_principal then Some left_out.Principal
    else (if bytes_eq draft.principal other_operation then Some left_out.Operation else None))

-- the name of a principal, or what is in place of one of another kind
abbrev pub held_name : List ℕ → List ℕ
held_name text = if is_other_kind text then other_principal else text

-- the principal that bytes name
abbrev pub user_in : List ℕ → Result (List ℕ) FaultKind
user_in bytes = text_in bytes >>= λ text. principal_of (held_name text)

-- the host that bytes name
abbrev pub host_in : List ℕ → Result (List ℕ) FaultKind
host_in bytes = text_in bytes >>= host_of

-- The parts of bytes around a mark.

-- what stands before a place, and what stands after a mark there
abbrev pub parts_at : List ℕ → List ℕ → Option ℕ → Option (List ℕ × List ℕ)
parts_at bytes mark place =
    option_map (λ at. (take at bytes, drop (at + length mark) bytes)) place

-- what stands before the first mark, and what stands after it
unfoldable pub first_parts : List ℕ → List ℕ → Option (List ℕ × List ℕ)
first_parts bytes mark = parts_at bytes mark (first_of (matches bytes mark 0))

-- the same of the last mark
unfoldable pub last_parts : List ℕ → List ℕ → Option (List ℕ × List ℕ)
last_parts bytes mark = parts_at bytes mark (first_of (rmatches bytes mark (length bytes)))

-- the parts, which have to be there
abbrev pub around_first : List ℕ → List ℕ → Result (List ℕ × List ℕ) FaultKind
around_first bytes mark = ok_or (first_parts bytes mark) BadLine

abbrev pub around_last : List ℕ → List ℕ → Result (List ℕ × List ℕ) FaultKind
around_last bytes mark = ok_or (last_parts bytes mark) BadLine

-- the mark stands somewhere
abbrev pub holds_mark : List ℕ → List ℕ → Bool
holds_mark bytes mark = is_some (first_parts bytes mark)

-- without white space at the ends
unfoldable pub trimmed : List ℕ → List ℕ
trimmed bytes = trim_end_by is_whitespace (trim_start_by is_whitespace bytes)

-- The lines that `kafka-acls --list` prints. Those of Kafka 2.3 and later name a resource by
-- `ResourcePattern(..)` and a binding by `(principal=.., host=.., ..)`; those of earlier versions
-- by `Topic:orders` or `Topic:LITERAL:orders`, and by
-- `User:x has Allow permission for operations: ..`.

-- a word, in any case
abbrev pub is_spelled : List ℕ → List ℕ → Bool
is_spelled word text = str_eq_ignore_ascii_case word text

-- operations on tokens and on two phases are left out
abbrev pub is_other_operation : List ℕ → Bool
is_other_operation word =
    is_spelled word (codes "CREATE_TOKENS") || (is_spelled word (codes "CreateTokens")
    || (is_spelled word (codes "DESCRIBE_TOKENS") || (is_spelled word (codes "DescribeTokens")
    || (is_spelled word (codes "TWO_PHASE_COMMIT") || is_spelled word (codes "TwoPhaseCommit")))))

-- resources of these kinds are left out
abbrev pub is_other_resource : List ℕ → Bool
is_other_resource word =
    is_spelled word (codes "DELEGATION_TOKEN")
    || (is_spelled word (codes "DelegationToken") || is_spelled word (codes "USER"))

-- an operation with underscores, or as it is written in scripts; nothing for one that is left out
abbrev pub listed_operation : List ℕ → Option (Option Operation)
listed_operation word =
    if is_spelled word (codes "CLUSTER_ACTION") then Some (Some ClusterAction)
    else (if is_spelled word (codes "DESCRIBE_CONFIGS") then Some (Some DescribeConfigs)
    else (if is_spelled word (codes "ALTER_CONFIGS") then Some (Some AlterConfigs)
    else (if is_spelled word (codes "IDEMPOTENT_WRITE") then Some (Some IdempotentWrite)
    else (if is_other_operation word then Some None
    else option_map (λ operation. Some operation) (operation_named word)))))

-- a kind of resource with an underscore, or as it is written in scripts;
-- nothing for one that is left out
abbrev pub listed_resource : List ℕ → Option (Option ResourceKind)
listed_resource word =
    if is_spelled word (codes "TRANSACTIONAL_ID") then Some (Some TransactionalId)
    else (if is_other_resource word then Some None
    else option_map (λ kind. Some kind) (resource_named word))

-- one of those that a policy has, for questions
abbrev pub known_operation : List ℕ → Option Operation
known_operation word = unwrap_or (listed_operation word) None

abbrev pub known_resource : List ℕ → Option ResourceKind
known_resource word = unwrap_or (listed_resource word) None

-- a word without the parenthesis that closes the list in which it is the last
abbrev pub unclosed_by : List ℕ → Option (List ℕ × List ℕ) → List ℕ
unclosed_by word None = word
unclosed_by word (Some parts) = if bytes_eq parts.1 [] then parts.0 else word

abbrev pub unclosed : List ℕ → List ℕ
unclosed word = unclosed_by word (last_parts word (codes ")"))

-- the parts of a listed binding, as they stand there
pub record GrantWords : Type 0 where
  pub principal : List ℕ
  pub host : List ℕ
  pub operation : List ℕ
  pub permission : List ℕ

-- the user, or what is in its place beside an operation that is left out
abbrev pub holder_by : Option Operation → List ℕ → Result (List ℕ) FaultKind
holder_by None user = principal_of other_operation
holder_by (Some operation) user = Ok user

abbrev pub holder_of : Option Operation → List ℕ → Result (List ℕ) FaultKind
holder_of operation bytes = user_in bytes >>= holder_by operation

unfoldable pub grant_of : GrantWords → Result Grant FaultKind
grant_of words = do
  permission ← ok_or (permission_named (unclosed words.permission)) BadWord
  operation ← ok_or (listed_operation words.operation) BadWord
  principal ← holder_of operation words.principal
  host ← host_in words.host
  Ok (record {
    permission = permission;
    principal = principal;
    host = host;
    operation = unwrap_or operation All;
  })

abbrev pub grant_item : GrantWords → Result Item FaultKind
grant_item words = grant_of words >>= λ grant. Ok (item.Grant grant)

-- a principal, and not one binding and the next on one line
abbrev pub one_principal : List ℕ → Result (List ℕ) FaultKind
one_principal text = if holds_mark text (codes ")(principal=") then Err BadLine else Ok text

-- (principal=PRINCIPAL, host=HOST, operation=OPERATION, permissionType=PERMISSION)
unfoldable pub newer_words : List ℕ → Result GrantWords FaultKind
newer_words line = do
  inside ← around_first line (codes "(principal=")
  by_permission ← around_last inside.1 (codes ", permissionType=")
  by_operation ← around_last by_permission.0 (codes ", operation=")
  by_host ← around_last by_operation.0 (codes ", host=")
  principal ← one_principal by_host.0
  Ok (record {
    principal = principal;
    host = by_host.1;
    operation = by_operation.1;
    permission = by_permission.1;
  })

abbrev pub newer_grant : List ℕ → Result Item FaultKind
newer_grant line = newer_words line >>= grant_item

-- PRINCIPAL has PERMISSION permission for operations: OPERATION from hosts: HOST
unfoldable pub older_words : List ℕ → Result GrantWords FaultKind
older_words line = do
  by_host ← around_last line (codes " from hosts: ")
  by_operation ← around_last by_host.0 (codes " permission for operations: ")
  by_permission ← around_last by_operation.0 (codes " has ")
  Ok (record {
    principal = by_permission.0;
    host = by_host.1;
    operation = by_operation.1;
    permission = by_permission.1;
  })

abbrev pub older_grant : List ℕ → Result Item FaultKind
older_grant line = older_words line >>= grant_item

-- what the bindings below a heading are on, nothing where it is left out
abbrev pub headed : Option ResourceKind → PatternKind → List ℕ → Option Target
headed None pattern name = None
headed (Some kind) pattern name =
    Some (record { resource = kind; pattern = record { kind = pattern; name = name } })

-- the words of a resource
pub record TargetWords : Type 0 where
  pub resource : List ℕ
  pub pattern : List ℕ
  pub name : List ℕ

unfoldable pub target_of : TargetWords → Result (Option Target) FaultKind
target_of words = do
  kind ← ok_or (listed_resource words.resource) BadWord
  pattern ← ok_or (pattern_named (unclosed words.pattern)) BadWord
  name ← text_in words.name
  Ok (headed kind pattern name)

abbrev pub target_item : TargetWords → Result Item FaultKind
target_item words = target_of words >>= λ target. Ok (item.Resource target)

-- ResourcePattern(resourceType=RESOURCE, name=NAME, patternType=PATTERN)
unfoldable pub newer_target : List ℕ → Result TargetWords FaultKind
newer_target text = do
  by_name ← around_first text (codes ", name=")
  by_kind ← around_first by_name.0 (codes "resourceType=")
  by_pattern ← around_last by_name.1 (codes ", patternType=")
  Ok (record { resource = by_kind.1; pattern = by_pattern.1; name = by_pattern.0 })

abbrev pub newer_resource : List ℕ → Result Item FaultKind
newer_resource text = newer_target text >>= target_item

-- the word is a kind of pattern, as it stands before a name
abbrev pub is_pattern_word : List ℕ → Bool
is_pattern_word word = bytes_eq word (codes "LITERAL") || bytes_eq word (codes "PREFIXED")

-- a name behind its pattern's kind, or a name alone, whose pattern is literal
abbrev pub older_target : List ℕ → List ℕ → Option (List ℕ × List ℕ) → TargetWords
older_target resource rest None =
    record { resource = resource; pattern = codes "LITERAL"; name = rest }
older_target resource rest (Some parts) =
    if is_pattern_word parts.0 then record
    { resource = resource; pattern = parts.0; name = parts.1 }
    else record { resource = resource; pattern = codes "LITERAL"; name = rest }

-- RESOURCE:NAME or RESOURCE:PATTERN:NAME
unfoldable pub older_resource : List ℕ → Result Item FaultKind
older_resource text = do
  by_kind ← around_first text (codes ":")
  target_item (older_target by_kind.0 by_kind.1 (first_parts by_kind.1 (codes ":")))

abbrev pub resource_item : List ℕ → Result Item FaultKind
resource_item text =
    if starts_with nat_eq text (codes "ResourcePattern(") then newer_resource text
    else older_resource text

-- what a heading has between its quotes, behind which a colon ends it
unfoldable pub heading_text : List ℕ → Result (List ℕ) FaultKind
heading_text line = do
  quoted ← around_first line (codes "`")
  text ← around_last quoted.1 (codes "`")
  if bytes_eq text.1 (codes ":") then Ok text.0 else Err BadLine

-- Current ACLs for resource `RESOURCE`:
abbrev pub heading_item : List ℕ → Result Item FaultKind
heading_item line = heading_text line >>= resource_item
