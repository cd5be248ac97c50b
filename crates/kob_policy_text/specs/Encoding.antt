-- The encodings that are read: UTF-8, of which a byte order mark is no part, and UTF-16 behind a
-- byte order mark (RFC 2781), of which the lower byte of a unit stands first or last.
use Rattle.std.specs.Prelude.{ℕ, Bool, true, false, List, [], ◌∷◌, ◌++◌, ◌+◌, ◌*◌, ◌||◌, Option, Some, None, Result, Ok, Err, if◌then◌else◌, nat_eq, drop, is_some}
use Rattle.std.specs.List.{starts_with}
use Rattle.std.specs.Char.Utf16.{has_unpaired_surrogate, utf16_lossy_chars}
use Rattle.std.specs.Str.{encode_utf8_all}
use Rattle.kob_script.specs.declared.fault.Fault.{Fault}
use Rattle.kob_script.specs.declared.fault.FaultKind.TheVariants.{BadText}

-- a unit of two bytes in their order
abbrev pub unit_of : Bool → ℕ → ℕ → ℕ
unit_of true first second = first + 256 * second
unit_of false first second = 256 * first + second

-- units, and a byte that has no second one
pub record Units : Type 0 where
  pub ended : List ℕ
  pub first : Option ℕ

abbrev pub no_units : Units
no_units = record { ended = []; first = None }

abbrev pub unit_by : Bool → Units → Option ℕ → ℕ → Units
unit_by low units None byte = record { ended = units.ended; first = Some byte }
unit_by low units (Some first) byte =
    record { ended = units.ended ++ unit_of low first byte ∷ []; first = None }

abbrev pub with_unit_byte : Bool → Units → ℕ → Units
with_unit_byte low units byte = unit_by low units units.first byte

unfoldable pub read_units : Bool → Units → List ℕ → Units
read_units low units [] = units
read_units low units (byte ∷ bytes) = read_units low (with_unit_byte low units byte) bytes

-- a byte is left, or a surrogate without the other one
abbrev pub is_broken : Units → Bool
is_broken units = is_some units.first || has_unpaired_surrogate units.ended

-- the text as UTF-8; of one that is broken the place is not reported
abbrev pub units_text : Units → Result (List ℕ) Fault
units_text units =
    if is_broken units then Err (record { line = 1; kind = BadText })
    else Ok (encode_utf8_all (utf16_lossy_chars units.ended))

unfoldable pub utf16_text : Bool → List ℕ → Result (List ℕ) Fault
utf16_text low bytes = units_text (read_units low no_units bytes)

-- a byte order mark of UTF-8 is no part of the text
abbrev pub unmarked : List ℕ → List ℕ
unmarked text =
    if starts_with nat_eq text (239 ∷ 187 ∷ 191 ∷ []) then drop 3 text else text

-- the text of a file in UTF-8, without a mark, which names the encoding
abbrev pub plain_text : List ℕ → Result (List ℕ) Fault
plain_text text =
    if starts_with nat_eq text (255 ∷ 254 ∷ []) then utf16_text true (drop 2 text)
    else (if starts_with nat_eq text (254 ∷ 255 ∷ []) then utf16_text false (drop 2 text)
    else Ok (unmarked text))
