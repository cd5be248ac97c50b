-- The line of a mistake with a mark below the word that is wrong, and what was expected there.
use Rattle.std.specs.Prelude.{ℕ, ◌-◌, ◌==◌, ◌||◌, List, [], ◌∷◌, ◌++◌, Option, Some, None, codes, drop, length, replicate, take, if◌then◌else◌}
use Rattle.std.specs.Char.{is_ascii_graphic}
use Rattle.std.specs.List.{flat_map}
use Rattle.kob_words.specs.Words.{bytes_text}

-- what is expected, nearest or hinted at, below a line with a fault
unfoldable pub note_text : List ℕ → List ℕ → List ℕ
note_text what text = codes "  " ++ what ++ codes ": " ++ text ++ codes "\n"

abbrev pub note_of : List ℕ → Option (List ℕ) → List ℕ
note_of what None = []
note_of what (Some text) = note_text what text

-- a byte that no terminal shows is written %xx
abbrev pub shown_byte : ℕ → List ℕ
shown_byte byte =
    if is_ascii_graphic byte || byte == 32 then byte ∷ [] else bytes_text (byte ∷ [])

-- the most bytes of a word that are shown
unfoldable pub most_shown : ℕ
most_shown = 200

-- a word after a blank
abbrev pub word_text : List ℕ → List ℕ
word_text word = codes " " ++ flat_map shown_byte (take most_shown word)

abbrev pub words_text : List (List ℕ) → List ℕ
words_text words = flat_map word_text words

-- as many carets as the first of these words takes, without its blank, or one for a missing word
abbrev pub mark_size : List (List ℕ) → ℕ
mark_size [] = 1
mark_size (word ∷ words) = length (word_text word) - 1

-- the words before the one that is wrong, and those from it on; carets below that one
unfoldable pub parts_text : List (List ℕ) → List (List ℕ) → List ℕ
parts_text before behind =
    codes " " ++ words_text before ++ words_text behind ++ codes "\n  "
    ++ replicate (length (words_text before)) 32 ++ replicate (mark_size behind) 94 ++ codes "\n"

abbrev pub line_text : List (List ℕ) → ℕ → List ℕ
line_text words place = parts_text (take place words) (drop place words)

-- the words of a line, the place of the one that is wrong, and what is said below it
abbrev pub mistake_text : List (List ℕ) → ℕ → List ℕ → Option (List ℕ) → Option (List ℕ) → List ℕ
mistake_text words place form nearest hint =
    line_text words place ++ note_text (codes "expected") form ++ note_of (codes "nearest") nearest
    ++ note_of (codes "hint") hint
