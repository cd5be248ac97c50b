-- Which words a shell's line has as they are, which in quotes, and which values in a property.
use Rattle.std.specs.Prelude.{ℕ, Bool, not, ◌&&◌, ◌||◌, ◌==◌, List, [], ◌∷◌, ◌++◌, codes, flat_map, length, nat_le, if◌then◌else◌}
use Rattle.std.specs.Char.{is_ascii_alphanumeric}
use Rattle.std.specs.List.{list_all}
use Rattle.kob_words.specs.Words.{bytes_text}

-- one of . _ - : / @ , =
abbrev pub is_sign : ℕ → Bool
is_sign byte =
    byte == 46 || byte == 95 || byte == 45 || byte == 58 || byte == 47 || byte == 64 || byte == 44
    || byte == 61

abbrev pub is_plain_byte : ℕ → Bool
is_plain_byte byte = is_ascii_alphanumeric byte || is_sign byte

abbrev pub is_plain : List ℕ → Bool
is_plain text = list_all is_plain_byte text

-- no control character, which would end the line or be lost
abbrev pub is_line_byte : ℕ → Bool
is_line_byte byte = nat_le 32 byte && not (byte == 127)

abbrev pub is_line : List ℕ → Bool
is_line text = list_all is_line_byte text

-- a byte within single quotes: a quote ends them, stands behind a backslash, and begins them again
abbrev pub quoted_byte : ℕ → List ℕ
quoted_byte byte = if byte == 39 then codes "'\\''" else byte ∷ []

-- a word as a POSIX shell reads it
abbrev pub shell_word : List ℕ → List ℕ
shell_word text =
    if is_plain text then text else codes "'" ++ flat_map quoted_byte text ++ codes "'"

-- a word of a line, and in a comment with the escapes of scripts
abbrev pub word_text : Bool → List ℕ → List ℕ
word_text written text = if written then shell_word text else bytes_text text

-- what can't be written stands as a comment
abbrev pub comment_unless : Bool → List ℕ
comment_unless written = if written then [] else codes "# "

-- a printable byte that is none of % = \
abbrev pub is_value_byte : ℕ → Bool
is_value_byte byte =
    nat_le 33 byte && nat_le byte 126 && not (byte == 37) && not (byte == 61) && not (byte == 92)

-- the value of a property, as it is
abbrev pub is_value : List ℕ → Bool
is_value text = not (length text == 0) && list_all is_value_byte text
