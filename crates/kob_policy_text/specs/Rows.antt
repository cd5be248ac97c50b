-- A binding in its seven parts: a row of a table, or an object of JSON as `confluent kafka acl
-- list` prints it.
use Rattle.std.specs.Prelude.{ℕ, Bool, false, List, [], ◌∷◌, Option, Some, None, Result, Ok, Err, codes, if◌then◌else◌, ◌&&◌, ◌||◌, nat_eq, ok_or, option_and_then}
use Rattle.std.specs.List.{starts_with}
use Rattle.json.specs.Find.{as_str, get}
use Rattle.json.specs.Json.{Json, document}
use Rattle.kob_script.specs.declared.fault.FaultKind.{FaultKind}
use Rattle.kob_script.specs.declared.fault.FaultKind.TheVariants.{BadLine, BadWord}
use Rattle.kob_script.specs.Words.{◌>>=◌, text_in}
use Rattle.kob_policy_text.specs.declared.item.Item.{Item}
use Rattle.kob_policy_text.specs.declared.item.Item.TheVariants.{Row}
use Rattle.kob_policy_text.specs.Cells.{cells_in}
use Rattle.kob_policy_text.specs.Listing.{GrantWords, TargetWords, first_parts, grant_of, holds_mark, is_spelled, target_of}

-- the row above others, in any ASCII case
abbrev pub is_columns : List ℕ → Bool
is_columns line =
    is_spelled line (codes "permission,principal,host,operation,resource_type,pattern_type,name")

abbrev pub is_permission_cell : List ℕ → Bool
is_permission_cell cell =
    is_spelled cell (codes "ALLOW") || (is_spelled cell (codes "DENY")
    || (is_spelled cell (codes "\"ALLOW\"") || is_spelled cell (codes "\"DENY\"")))

abbrev pub begins_row : Option (List ℕ × List ℕ) → Bool
begins_row None = false
begins_row (Some parts) = is_permission_cell parts.0

-- a permission stands before the first comma
abbrev pub is_row : List ℕ → Bool
is_row line = begins_row (first_parts line (codes ","))

-- (a logger may print other objects)
abbrev pub is_object : List ℕ → Bool
is_object line =
    starts_with nat_eq line (codes "{") && holds_mark line (codes "\"resource_type\"")

-- the line is a row or an object
abbrev pub is_tabular : List ℕ → Bool
is_tabular line = is_columns line || (is_row line || is_object line)

-- a binding, on what it is on
abbrev pub row_of : TargetWords → GrantWords → Result Item FaultKind
row_of on words =
    grant_of words >>= λ grant. target_of on >>= λ target. Ok (Row target grant)

abbrev pub seven_cells : List (List ℕ) → Result Item FaultKind
seven_cells (permission ∷ principal ∷ host ∷ operation ∷ resource ∷ pattern ∷ name ∷ []) =
    row_of (record { resource = resource; pattern = pattern; name = name })
    (record {
      principal = principal;
      host = host;
      operation = operation;
      permission = permission;
    })
seven_cells cells = Err BadLine

-- PERMISSION,PRINCIPAL,HOST,OPERATION,RESOURCE,PATTERN,NAME
unfoldable pub row_item : List ℕ → Result Item FaultKind
row_item line = cells_in line >>= seven_cells

-- the text of a member
abbrev pub member_in : List ℕ → Json → Result (List ℕ) FaultKind
member_in name value = ok_or (option_and_then as_str (get name value)) BadWord

-- the host, which is every host where none is given
abbrev pub host_by : Option Json → Result (List ℕ) FaultKind
host_by None = Ok (codes "*")
host_by (Some told) = ok_or (as_str told) BadWord

unfoldable pub grant_in : Json → Result GrantWords FaultKind
grant_in value = do
  permission ← member_in (codes "permission") value
  principal ← member_in (codes "principal") value
  host ← host_by (get (codes "host") value)
  operation ← member_in (codes "operation") value
  Ok (record {
    principal = principal;
    host = host;
    operation = operation;
    permission = permission;
  })

unfoldable pub target_in : Json → Result TargetWords FaultKind
target_in value = do
  resource ← member_in (codes "resource_type") value
  pattern ← member_in (codes "pattern_type") value
  name ← member_in (codes "resource_name") value
  Ok (record { resource = resource; pattern = pattern; name = name })

unfoldable pub object_by : Json → Result Item FaultKind
object_by value =
    grant_in value >>= λ words. target_in value >>= λ on. row_of on words

-- JSON whose members name the parts; other members are skipped
abbrev pub read_object : List ℕ → Result Item FaultKind
read_object text = ok_or (document text) BadLine >>= object_by

unfoldable pub object_item : List ℕ → Result Item FaultKind
object_item line = text_in line >>= read_object

-- what such a line says; the row above others says nothing
abbrev pub tabular_item : List ℕ → Result (Option Item) FaultKind
tabular_item line =
    if is_columns line then Ok None
    else (if is_row line then (row_item line >>= λ item. Ok (Some item))
    else (object_item line >>= λ item. Ok (Some item)))
