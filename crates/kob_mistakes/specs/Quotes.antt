-- The words of a question as they are in its line: they are cut at blanks outside of quotes, which
-- are those of a shell (POSIX, "Shell Command Language", Quoting).
use Rattle.std.specs.Prelude.{ℕ, ◌==◌, ◌&&◌, Bool, true, false, List, [], ◌∷◌, ◌++◌, if◌then◌else◌}
use Rattle.kob_mistakes.specs.declared.quotes.Quoting.{Quoting}
use Rattle.kob_mistakes.specs.declared.quotes.Quoting.TheVariants.{Plain, Escaped, Single, Double, DoubleEscaped}
use Rattle.kob_script.specs.Words.{is_blank}

-- what a quote or a backslash begins outside quotes
abbrev pub plain_after : ℕ → Quoting
plain_after byte =
    if byte == 39 then Single
    else (if byte == 34 then Double else (if byte == 92 then Escaped else Plain))

abbrev pub double_after : ℕ → Quoting
double_after byte =
    if byte == 92 then DoubleEscaped else (if byte == 34 then Plain else Double)

-- how the next byte is quoted
abbrev pub after : Quoting → ℕ → Quoting
after Plain byte = plain_after byte
after Escaped byte = Plain
after Single byte = if byte == 39 then Plain else Single
after Double byte = double_after byte
after DoubleEscaped byte = Double

abbrev pub is_plain : Quoting → Bool
is_plain Plain = true
is_plain Escaped = false
is_plain Single = false
is_plain Double = false
is_plain DoubleEscaped = false

-- between two blanks no word stands
abbrev pub with_word : List ℕ → List (List ℕ)
with_word [] = []
with_word (byte ∷ bytes) = (byte ∷ bytes) ∷ []

-- the words of bytes, behind those of a word that has begun
unfoldable pub cut_words : Quoting → List ℕ → List ℕ → List (List ℕ)
cut_words quoting word [] = with_word word
cut_words quoting word (byte ∷ bytes) =
    if is_plain quoting && is_blank byte
    then with_word word ++ cut_words quoting [] bytes
    else cut_words (after quoting byte) (word ++ byte ∷ []) bytes

abbrev pub quoted_words : List ℕ → List (List ℕ)
quoted_words line = cut_words Plain [] line
