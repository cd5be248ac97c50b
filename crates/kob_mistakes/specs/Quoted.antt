-- Names in a scene of which quotes are a part, since nothing removes them there.
use Rattle.std.specs.Prelude.{ℕ, ◌-◌, ◌&&◌, ◌||◌, nat_eq, nat_lt, not, Bool, List, [], ◌∷◌, Option, Some, None, codes, find, length, if◌then◌else◌}
use Rattle.std.specs.List.{ends_with, starts_with}
use Rattle.std.specs.Option.{is_some, option_map}
use Rattle.std.specs.Str.{bytes_eq}
use Rattle.kob_mistakes.specs.Hints.{has}
use Rattle.kob_mistakes.specs.Lines.{line_where, word_at}
use Rattle.kob_script.specs.Script.{lines_in}
use Rattle.kob_script.specs.Words.{raw_words}

abbrev pub is_between : List ℕ → List ℕ → Bool
is_between word quote = starts_with nat_eq word quote && ends_with nat_eq word quote

-- the same quotes at both ends
abbrev pub is_quoted : List ℕ → Bool
is_quoted word =
    nat_lt 1 (length word) && (is_between word (codes "'") || is_between word (codes "\""))

-- a principal, on a line that is no comment
abbrev pub is_asker : List ℕ → Bool
is_asker word = has 58 word && not (starts_with nat_eq word (codes "#"))

-- the word behind a command, or one of those behind `acl`
abbrev pub quoted_behind : List ℕ → List ℕ → List (List ℕ) → Option (List ℕ)
quoted_behind command first rest =
    if is_quoted first then Some first
    else (if bytes_eq command (codes "acl") then find is_quoted rest else None)

-- among the words of a line
abbrev pub quoted_among : List (List ℕ) → Option (List ℕ)
quoted_among [] = None
quoted_among (principal ∷ []) = None
quoted_among (principal ∷ host ∷ []) = None
quoted_among (principal ∷ host ∷ command ∷ []) = None
quoted_among (principal ∷ host ∷ command ∷ first ∷ rest) =
    if is_asker principal then quoted_behind command first rest else None

abbrev pub is_with_quotes : List ℕ → Bool
is_with_quotes line = is_some (quoted_among (raw_words line))

-- the name on the line of a number
abbrev pub quoted_on : List (List ℕ) → ℕ → Option (ℕ × List ℕ)
quoted_on lines number =
    option_map (λ word. (number, word)) (quoted_among (raw_words (word_at lines (number - 1))))

-- the number of the first line with such a name, and the name
abbrev pub quoted_on_some : List (List ℕ) → Option ℕ → Option (ℕ × List ℕ)
quoted_on_some lines None = None
quoted_on_some lines (Some number) = quoted_on lines number

abbrev pub quoted_name : List ℕ → Option (ℕ × List ℕ)
quoted_name text = quoted_on_some (lines_in text) (line_where is_with_quotes 1 (lines_in text))
