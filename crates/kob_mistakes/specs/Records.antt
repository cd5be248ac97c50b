-- Records of which a word is missing, and words that stand behind the state of a record.
use Rattle.std.specs.Prelude.{ℕ, ◌-◌, Bool, false, ◌&&◌, ◌||◌, ◌==◌, nat_lt, not, List, Option, Some, None, codes, length, slice_get, if◌then◌else◌}
use Rattle.std.specs.List.{list_any}
use Rattle.std.specs.Option.{is_some, option_map, option_or}
use Rattle.std.specs.Str.{bytes_eq}
use Rattle.kob_mistakes.specs.Lines.{line_where, word_at}
use Rattle.kob_mistakes.specs.declared.record.Ending.{Ending}
use Rattle.kob_mistakes.specs.declared.record.Ending.TheVariants.{Crash, Late}
use Rattle.kob_script.specs.Script.{lines_in}
use Rattle.kob_script.specs.Words.{raw_words}

-- the word behind the state
abbrev pub ending_word : Ending → List ℕ
ending_word Crash = codes "crash"
ending_word Late = codes "late"

-- the first word of the variant of a service whose records may have it
abbrev pub variant_word : Ending → List ℕ
variant_word Crash = codes "separate"
variant_word Late = codes "visible"

abbrev pub ending_named : List ℕ → Option Ending
ending_named word =
    if bytes_eq word (codes "crash") then Some Crash
    else (if bytes_eq word (codes "late") then Some Late else None)

-- the word at a place
abbrev pub is_text : Option (List ℕ) → List ℕ → Bool
is_text None text = false
is_text (Some word) text = bytes_eq word text

abbrev pub word_is : List (List ℕ) → ℕ → List ℕ → Bool
word_is words place text = is_text (slice_get words place) text

-- NAME record ID AGGREGATETYPE AGGREGATEID TYPE PAYLOAD KIND KEY STATE, where STATE is this word
abbrev pub are_with_state : List ℕ → List (List ℕ) → Bool
are_with_state state words =
    length words == 10 && word_is words 1 (codes "record") && word_is words 9 state

abbrev pub is_with_state : List ℕ → List ℕ → Bool
is_with_state state line = are_with_state state (raw_words line)

-- service NAME PRINCIPAL HOST partitions N, and this word
abbrev pub are_of_variant : List ℕ → List (List ℕ) → Bool
are_of_variant variant words = word_is words 0 (codes "service") && word_is words 6 variant

abbrev pub is_of_variant : List ℕ → List ℕ → Bool
is_of_variant variant line = are_of_variant variant (raw_words line)

-- which services may have it
abbrev pub ending_hint : Ending → List ℕ
ending_hint Crash = codes "crash needs a service that is declared separate"
ending_hint Late = codes "late needs a service that is declared visible late"

-- the word of a record that is missing at a place
unfoldable pub missing_at : ℕ → Option (List ℕ)
missing_at place =
    if place == 2 then Some (codes "ID is missing here")
    else (if place == 3 then Some (codes "AGGREGATETYPE is missing here")
    else (if place == 4 then Some (codes "AGGREGATEID is missing here")
    else (if place == 5 then Some (codes "TYPE is missing here")
    else (if place == 6 then Some (codes "PAYLOAD is missing here")
    else (if place == 7 then Some (codes "KIND is missing here")
    else (if place == 8 then Some (codes "KEY is missing here")
    else (if place == 9 then Some (codes "STATE is missing here") else None)))))))

-- A record ends before its state, with a word that may stand behind the state: a word is missing
-- before that one.
abbrev pub lacks_before_ending : List (List ℕ) → ℕ → Bool
lacks_before_ending words place =
    word_is words 1 (codes "record") && place == length words
    && is_some (ending_named (word_at words (place - 1)))

abbrev pub before_ending : List (List ℕ) → ℕ → ℕ
before_ending words place = if lacks_before_ending words place then place - 1 else place

-- where a word stands that may stand behind the state: what is missing before it, or its service
abbrev pub missing_before : Option Ending → Option (List ℕ) → Option (List ℕ)
missing_before None missing = None
missing_before (Some ending) missing = option_or missing (Some (ending_hint ending))

-- by the word at the place that is wrong; there is none behind the last
abbrev pub hint_at : Option (List ℕ) → Option (List ℕ) → Option (List ℕ)
hint_at None missing = missing
hint_at (Some word) missing = missing_before (ending_named word) missing

abbrev pub hint_on_record : List (List ℕ) → ℕ → Option (List ℕ)
hint_on_record words place =
    if not (word_is words 1 (codes "record")) || nat_lt place 2 then None
    else hint_at (slice_get words place) (missing_at place)

-- the number of the first line with a record whose state may be meant as this word behind it
abbrev pub doubtful_line : List (List ℕ) → Ending → Option ℕ
doubtful_line lines ending =
    if list_any (is_of_variant (variant_word ending)) lines
    then line_where (is_with_state (ending_word ending)) 1 lines else None

-- that line, and the word
abbrev pub doubtful_state : List ℕ → Option (ℕ × List ℕ)
doubtful_state text =
    option_or (option_map (λ line. (line, codes "crash")) (doubtful_line (lines_in text) Crash))
    (option_map (λ line. (line, codes "late")) (doubtful_line (lines_in text) Late))
