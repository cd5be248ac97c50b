-- The lines of a text, and the words of a line as they stand there.
use Rattle.std.specs.Prelude.{ℕ, ◌+◌, ◌-◌, Bool, List, [], ◌∷◌, Option, Some, None, not, slice_get, take, unwrap_or, if◌then◌else◌}
use Rattle.std.specs.Result.{is_ok}
use Rattle.std.specs.Str.{is_utf8}
use Rattle.kob_script.specs.Script.{lines_in}
use Rattle.kob_script.specs.Words.{word_of}

-- the number of the first line, or the place of the first word, of which this is so, where the first
-- of them has this number
unfoldable pub line_where : (List ℕ → Bool) → ℕ → List (List ℕ) → Option ℕ
line_where is_so number [] = None
line_where is_so number (line ∷ lines) =
    if is_so line then Some number else line_where is_so (number + 1) lines

-- the word at a place, an empty one behind the last
unfoldable pub word_at : List (List ℕ) → ℕ → List ℕ
word_at words place = unwrap_or (slice_get words place) []

-- the line of a number, counted from 1, and those before it
abbrev pub line_of : List ℕ → ℕ → List ℕ
line_of text number = word_at (lines_in text) (number - 1)

abbrev pub lines_before : List ℕ → ℕ → List (List ℕ)
lines_before text number = take (number - 1) (lines_in text)

-- bytes that are a text
abbrev pub as_text : List ℕ → Option (List ℕ)
as_text bytes = if is_utf8 bytes then Some bytes else None

-- a word with a percent sign that two hexadecimal digits do not follow
abbrev pub is_misread : List ℕ → Bool
is_misread word = not (is_ok (word_of word))
