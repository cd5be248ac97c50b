-- The words for resources, patterns, operations and permissions; printed texts and bindings; escapes.
use Rattle.std.specs.Prelude.{ℕ, List, [], ◌∷◌, Option, codes, Some, if◌then◌else◌, ◌/◌, ◌%◌, ◌==◌, ◌&&◌, not, Bool, nat_le, flat_map, ◌++◌, ◌≡◌, true, nat_lt, ◌+◌, ◌*◌, zero, suc, is_some, option_map, unwrap_or, None, length, decimal, ◌^◌, take}
use Rattle.std.specs.List.{find, list_any, prefix_len}
use Rattle.std.specs.Str.{all_ascii_digits, str_eq_ignore_ascii_case}
use Rattle.std.specs.Str.Parse.{digits_value}
use Rattle.kob_names.specs.declared.kinds.Operation.{Operation}
use Rattle.kob_names.specs.declared.kinds.Operation.TheVariants.{All, Read, Write, Create, Delete, Alter, Describe, ClusterAction, DescribeConfigs, AlterConfigs, IdempotentWrite}
use Rattle.kob_names.specs.declared.kinds.ResourceKind.{ResourceKind}
use Rattle.kob_names.specs.declared.kinds.ResourceKind.TheVariants.{Topic, Group, Cluster, TransactionalId}
use Rattle.kob_names.specs.declared.filter.FilterPattern.{FilterPattern}
use Rattle.kob_names.specs.declared.kinds.PatternKind.{PatternKind}
use Rattle.kob_names.specs.declared.kinds.PatternKind.TheVariants.{Literal, Prefixed}
use Rattle.kob_names.specs.declared.kinds.Permission.{Permission}
use Rattle.kob_names.specs.declared.kinds.Permission.TheVariants.{Allow, Deny}
use Rattle.std.specs.Char.{digit_char, digit_value}
use Rattle.kob_names.specs.Binding.{Binding}
use Rattle.kob_names.specs.declared.filter.FilterPattern.TheVariants as filter

-- the first of these with a name, in any ASCII case
abbrev pub first_named : {A : Type 0} → (A → List ℕ) → List A → List ℕ → Option A
first_named name_of among name =
    find (λ item. str_eq_ignore_ascii_case name (name_of item)) among

-- each operation is written by its name
abbrev pub operation_name : Operation → List ℕ
operation_name All = codes "All"
operation_name Read = codes "Read"
operation_name Write = codes "Write"
operation_name Create = codes "Create"
operation_name Delete = codes "Delete"
operation_name Alter = codes "Alter"
operation_name Describe = codes "Describe"
operation_name ClusterAction = codes "ClusterAction"
operation_name DescribeConfigs = codes "DescribeConfigs"
operation_name AlterConfigs = codes "AlterConfigs"
operation_name IdempotentWrite = codes "IdempotentWrite"

abbrev pub operations : List Operation
operations =
    All ∷ Read ∷ Write ∷ Create ∷ Delete ∷ Alter ∷ Describe
    ∷ ClusterAction ∷ DescribeConfigs ∷ AlterConfigs ∷ IdempotentWrite ∷ []

-- the operation of a name
abbrev pub operation_named : List ℕ → Option Operation
operation_named name = first_named operation_name operations name

abbrev pub resource_name : ResourceKind → List ℕ
resource_name Topic = codes "Topic"
resource_name Group = codes "Group"
resource_name Cluster = codes "Cluster"
resource_name TransactionalId = codes "TransactionalId"

-- the kind of resource of a name
abbrev pub resource_named : List ℕ → Option ResourceKind
resource_named name =
    first_named resource_name (Topic ∷ Group ∷ Cluster ∷ TransactionalId ∷ []) name

abbrev pub pattern_name : PatternKind → List ℕ
pattern_name Literal = codes "LITERAL"
pattern_name Prefixed = codes "PREFIXED"

-- the kind of pattern of a name, in any ASCII case
abbrev pub pattern_named : List ℕ → Option PatternKind
pattern_named name = first_named pattern_name (Literal ∷ Prefixed ∷ []) name

-- a filter for one kind of pattern
abbrev pub filter_of_kind : PatternKind → FilterPattern
filter_of_kind Literal = filter.Literal
filter_of_kind Prefixed = filter.Prefixed

-- what a filter of a name takes, in any ASCII case: any kind, what matches, or one kind
abbrev pub filter_pattern_named : List ℕ → Option FilterPattern
filter_pattern_named name =
    if str_eq_ignore_ascii_case name (codes "ANY") then Some filter.Any
    else if str_eq_ignore_ascii_case name (codes "MATCH") then Some filter.Matching
    else option_map filter_of_kind (pattern_named name)

abbrev pub permission_name : Permission → List ℕ
permission_name Allow = codes "ALLOW"
permission_name Deny = codes "DENY"

-- the permission of a name, in any ASCII case
abbrev pub permission_named : List ℕ → Option Permission
permission_named name = first_named permission_name (Allow ∷ Deny ∷ []) name

-- How bytes are printed.

-- a byte from 0x21 to 0x7e that is neither `%` nor `=` stands for itself
abbrev pub is_plain : ℕ → Bool
is_plain byte = nat_le 0x21 byte && (nat_le byte 0x7e && (not (byte == 37) && not (byte == 61)))

-- any other byte is `%` and two hexadecimal digits
abbrev pub byte_text : ℕ → List ℕ
byte_text byte =
    if is_plain byte then byte ∷ [] else 37 ∷ digit_char (byte / 16) ∷ digit_char (byte % 16) ∷ []

abbrev pub bytes_text : List ℕ → List ℕ
bytes_text bytes = flat_map byte_text bytes

-- how many bytes at the front stand for themselves
abbrev pub plain_length : List ℕ → ℕ
plain_length bytes = prefix_len is_plain bytes

-- bytes after a space
abbrev pub spaced : List ℕ → List ℕ
spaced bytes = codes " " ++ bytes_text bytes

-- a number after a space
abbrev pub counted : ℕ → List ℕ
counted number = codes " " ++ decimal number

-- What there was still stands at the front.
abbrev pub IsKept : List ℕ → List ℕ → Type 0
IsKept old new = take (length old) new ≡ old

-- How bindings are printed.

-- PERMISSION PRINCIPAL HOST OPERATION
abbrev pub grant_text : Binding → List ℕ
grant_text binding =
    permission_name binding.permission ++ codes " " ++ bytes_text binding.principal
    ++ codes " " ++ bytes_text binding.host ++ codes " " ++ operation_name binding.operation

-- RESOURCE PATTERN NAME
abbrev pub target_text : Binding → List ℕ
target_text binding =
    resource_name binding.resource ++ codes " " ++ pattern_name binding.pattern.kind
    ++ codes " " ++ bytes_text binding.pattern.name

-- binding SERIAL PERMISSION PRINCIPAL HOST OPERATION RESOURCE PATTERN NAME
abbrev pub binding_text : ℕ → Binding → List ℕ
binding_text serial binding =
    codes "binding " ++ decimal serial ++ codes " " ++ grant_text binding ++ codes " "
    ++ target_text binding

-- How escapes are read: `%` and two hexadecimal digits stand for one byte.

-- the byte that two hexadecimal digits write
abbrev pub hexadecimal : ℕ → ℕ → Option ℕ
hexadecimal high low =
    if nat_lt (digit_value high) 16 && nat_lt (digit_value low) 16
    then Some (16 * digit_value high + digit_value low) else None

-- the byte that stands after a percent sign; nothing unless two digits follow
abbrev pub escaped : List ℕ → Option ℕ
escaped (high ∷ low ∷ others) = hexadecimal high low
escaped _ = None

-- a byte before others
abbrev pub before : Option ℕ → Option (List ℕ) → Option (List ℕ)
before None others = None
before (Some byte) others = option_map (λ bytes. byte ∷ bytes) others

-- Bytes without a percent sign stand for themselves.
abbrev pub has_percent : List ℕ → Bool
has_percent bytes = list_any (λ byte. byte == 37) bytes

-- what a word stands for after this number of bytes; nothing if it has a `%` without two digits
unfoldable pub unescaped_from : ℕ → List ℕ → Option (List ℕ)
unescaped_from n [] = Some []
unescaped_from zero (byte ∷ rest) =
    if byte == 37 then before (escaped rest) (unescaped_from 2 rest)
    else before (Some byte) (unescaped_from 0 rest)
unescaped_from (suc n) (byte ∷ rest) = unescaped_from n rest

abbrev pub unescaped : List ℕ → Option (List ℕ)
unescaped word = unescaped_from 0 word

-- the bytes that a part of a word stands for; the part itself if its escapes are not whole
abbrev pub bytes_of : List ℕ → List ℕ
bytes_of part = unwrap_or (unescaped part) part

-- parts around this byte have whole escapes if the bytes have, so that each is read as it stands
abbrev pub LeavesWhole : ℕ → Type 0
LeavesWhole byte = (front back : List ℕ) → is_some (unescaped (front ++ byte ∷ back)) ≡ true
    → (is_some (unescaped front) ≡ true) × (is_some (unescaped back) ≡ true)

-- the number of 64 bits that one or more decimal digits write
abbrev pub decimal_in : List ℕ → Option ℕ
decimal_in digits =
    if all_ascii_digits digits && (nat_lt 0 (length digits)
    && nat_lt (digits_value 10 digits) (2 ^ 64)) then Some (digits_value 10 digits) else None
