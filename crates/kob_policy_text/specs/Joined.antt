-- The lines of a text with their numbers. A backslash that ends a line of `kafka-acls` joins it
-- with the next one, unless it is quoted, and is no part of the command (POSIX, "Shell Command
-- Language", Escape Character).
use Rattle.std.specs.Prelude.{ℕ, Bool, true, false, List, [], ◌∷◌, ◌++◌, ◌+◌, ◌-◌, ◌&&◌, Option, Some, None, if◌then◌else◌, is_some, length, take}
use Rattle.std.specs.Option.{option_to_list}
use Rattle.kob_policy_text.specs.declared.shell.Quoting.{Quoting}
use Rattle.kob_policy_text.specs.declared.shell.Quoting.TheVariants.{Plain, Escaped, Single, Double, DoubleEscaped, Refused}
use Rattle.kob_policy_text.specs.Lines.{tool_arguments}
use Rattle.kob_policy_text.specs.Listing.{trimmed}
use Rattle.kob_policy_text.specs.Shell.{no_words, read_on}

-- a line, or several that are joined, with the number of the first
pub record Numbered : Type 0 where
  pub line : ℕ
  pub text : List ℕ

-- the last byte is a backslash that quotes what comes next
abbrev pub is_backslash : Quoting → Bool
is_backslash Escaped = true
is_backslash DoubleEscaped = true
is_backslash Plain = false
is_backslash Single = false
is_backslash Double = false
is_backslash Refused = false

unfoldable pub quoting_after : List ℕ → Quoting
quoting_after line = (read_on no_words line).quoting

-- the command goes on
unfoldable pub is_continued : List ℕ → Bool
is_continued line =
    is_some (tool_arguments (trimmed line)) && is_backslash (quoting_after line)

abbrev pub numbered : ℕ → List ℕ → Numbered
numbered line text = record { line = line; text = text }

-- what goes on, with the next line
abbrev pub joined : Option Numbered → ℕ → List ℕ → Numbered
joined None number line = numbered number line
joined (Some held) number line = numbered held.line (held.text ++ line)

abbrev pub without_last : Numbered → Numbered
without_last held = numbered held.line (take (length held.text - 1) held.text)

-- the lines from one on, whose number is given, of which the first may go on with what is held
unfoldable pub joined_from : Option Numbered → ℕ → List (List ℕ) → List Numbered
joined_from held number [] = option_to_list held
joined_from held number (line ∷ lines) =
    if is_continued (joined held number line).text
    then joined_from (Some (without_last (joined held number line))) (number + 1) lines
    else joined held number line ∷ joined_from None (number + 1) lines

abbrev pub joined_lines : List (List ℕ) → List Numbered
joined_lines lines = joined_from None 1 lines
