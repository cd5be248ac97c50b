-- Answers as JSON, an object a line.
use Rattle.kob_script.specs.Script.{lines_in}
use Rattle.memchr.specs.Find.{first_of, matches}
use Rattle.std.specs.Char.{digit_char}
use Rattle.std.specs.Fmt.{decimal}
use Rattle.std.specs.List.{flat_map}
use Rattle.std.specs.Option.{option_map}
use Rattle.std.specs.Prelude.{ℕ, ◌+◌, ◌/◌, ◌%◌, ◌==◌, ◌&&◌, Bool, List, [], ◌∷◌, ◌++◌, Option, Some, None, codes, drop, if◌then◌else◌, nat_le, nat_lt, take, false}

-- a byte of a string
abbrev pub json_byte : ℕ → List ℕ
json_byte byte =
    if byte == 34 then codes "\\\""
    else if byte == 92 then codes "\\\\"
    else if nat_lt byte 32 then
    codes "\\u00" ++ digit_char (byte / 16) ∷ digit_char (byte % 16) ∷ []
    else byte ∷ []

abbrev pub json_string : List ℕ → List ℕ
json_string text = codes "\"" ++ flat_map json_byte text ++ codes "\""

-- a byte of words: a space is between two of them
abbrev pub words_byte : ℕ → List ℕ
words_byte byte = if byte == 32 then codes "\",\"" else json_byte byte

-- words with a space between, as a list of strings
abbrev pub json_words : List ℕ → List ℕ
json_words words = codes "[\"" ++ flat_map words_byte words ++ codes "\"]"

-- what stands before the first space, and what stands after it
abbrev pub parts_at : List ℕ → Option ℕ → Option (List ℕ × List ℕ)
parts_at text place = option_map (λ at. (take at text, drop (at + 1) text)) place

unfoldable pub first_word : List ℕ → Option (List ℕ × List ℕ)
first_word text = parts_at text (first_of (matches text (codes " ") 0))

-- the kind of an answer, and its other words
abbrev pub json_fields : Option (List ℕ × List ℕ) → List ℕ → List ℕ
json_fields None kind = codes "\"kind\":" ++ json_string kind ++ codes ",\"words\":[]}\n"
json_fields (Some parts) text =
    codes "\"kind\":" ++ json_string parts.0 ++ codes ",\"words\":" ++ json_words parts.1
    ++ codes "}\n"

abbrev pub is_digit : ℕ → Bool
is_digit byte = nat_le 48 byte && nat_le byte 57

abbrev pub begins_with_digit : List ℕ → Bool
begins_with_digit [] = false
begins_with_digit (byte ∷ bytes) = is_digit byte

-- an answer begins with its number; a row of an answer has none
abbrev pub json_parts : Option (List ℕ × List ℕ) → List ℕ → List ℕ
json_parts None text = json_fields None text
json_parts (Some parts) text =
    if begins_with_digit parts.0 then
    codes "\"number\":" ++ parts.0 ++ codes "," ++ json_fields (first_word parts.1) parts.1
    else json_fields (Some parts) text

-- what a step of this line of the scene printed on one line
abbrev pub json_object : ℕ → List ℕ → List ℕ
json_object line text =
    codes "{\"line\":" ++ decimal line ++ codes "," ++ json_parts (first_word text) text

-- all that a step of this line printed
abbrev pub json_text : ℕ → List ℕ → List ℕ
json_text line text = flat_map (json_object line) (lines_in text)
