-- How names are printed: as a list has them, between double quotes where a shell would cut or
-- change them (POSIX, "Shell Command Language", Quoting).
use Rattle.std.specs.Prelude.{ℕ, Bool, List, [], ◌∷◌, ◌++◌, ◌==◌, ◌||◌, ◌&&◌, not, nat_le, codes, flat_map, if◌then◌else◌}
use Rattle.std.specs.Fmt.{decimal}
use Rattle.std.specs.List.{list_all}
use Rattle.kob_names.specs.Binding.{Binding}
use Rattle.kob_words.specs.Words.{bytes_text, operation_name, pattern_name, permission_name, resource_name}

-- a byte before which a backslash stands between double quotes: one of " $ \ `
abbrev pub has_meaning : ℕ → Bool
has_meaning byte = byte == 34 || byte == 36 || byte == 92 || byte == 96

-- a byte of ASCII that can be printed, but the percent sign, which begins an escape
abbrev pub is_shown : ℕ → Bool
is_shown byte = nat_le 32 byte && (nat_le byte 126 && not (byte == 37))

-- a byte that stands for itself outside quotes
abbrev pub is_bare : ℕ → Bool
is_bare byte = is_shown byte && (not (byte == 32) && (not (byte == 39) && not (has_meaning byte)))

-- a byte between double quotes; what can't be printed is `%` and two hexadecimal digits
abbrev pub quoted_byte : ℕ → List ℕ
quoted_byte byte =
    if has_meaning byte then 92 ∷ byte ∷ []
    else (if is_shown byte then byte ∷ [] else bytes_text (byte ∷ []))

abbrev pub quoted : List ℕ → List ℕ
quoted name = codes "\"" ++ flat_map quoted_byte name ++ codes "\""

unfoldable pub name_text : List ℕ → List ℕ
name_text name = if list_all is_bare name then name else quoted name

-- PERMISSION PRINCIPAL HOST OPERATION
abbrev pub grant_text : Binding → List ℕ
grant_text binding =
    permission_name binding.permission ++ codes " " ++ name_text binding.principal
    ++ codes " " ++ name_text binding.host ++ codes " " ++ operation_name binding.operation

-- RESOURCE PATTERN NAME
abbrev pub pattern_text : Binding → List ℕ
pattern_text binding =
    resource_name binding.resource ++ codes " " ++ pattern_name binding.pattern.kind
    ++ codes " " ++ name_text binding.pattern.name

-- binding SERIAL PERMISSION PRINCIPAL HOST OPERATION RESOURCE PATTERN NAME
abbrev pub binding_text : ℕ → Binding → List ℕ
binding_text serial binding =
    codes "binding " ++ decimal serial ++ codes " " ++ grant_text binding ++ codes " "
    ++ pattern_text binding
