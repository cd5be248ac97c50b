-- Which word of a line of a scene is wrong.
use Rattle.std.specs.Prelude.{ℕ, ◌==◌, ◌&&◌, ◌||◌, ◌%◌, nat_eq, nat_lt, not, Bool, List, [], ◌∷◌, Option, Some, None, Result, Ok, Err, codes, filter, length, unwrap_or, if◌then◌else◌}
use Rattle.std.specs.List.{starts_with}
use Rattle.std.specs.Option.{is_some}
use Rattle.kob_mistakes.specs.Forms.{form_in, line_forms}
use Rattle.kob_mistakes.specs.Hints.{has}
use Rattle.kob_mistakes.specs.LeftOut.{place_of_left_out}
use Rattle.kob_mistakes.specs.Lines.{is_misread, line_where, word_at}
use Rattle.kob_mistakes.specs.Options.{option_place}
use Rattle.kob_mistakes.specs.Records.{before_ending, word_is}
use Rattle.kob_mistakes.specs.Workers.{kind_named}
use Rattle.kob_mistakes.specs.declared.left_out.LeftOut.{LeftOut}
use Rattle.kob_scene_text.specs.Places.{fault_place, same_kind}
use Rattle.kob_scene_text.specs.declared.fault.SceneFaultKind.{SceneFaultKind}
use Rattle.kob_scene_text.specs.declared.fault.SceneFaultKind.TheVariants.{Script, UnknownWorker, BadWorkerName, NameTaken, BadPartitions, BadMax, BadRoute, BadId, NoLaw}
use Rattle.kob_script.specs.Words.{Word, raw_words, words_of}
use Rattle.kob_script.specs.declared.fault.FaultKind.{FaultKind}
use Rattle.kob_script.specs.declared.fault.FaultKind.TheVariants as fault

-- where a fault is one of the whole line: among the options of `acl`, or the first word
abbrev pub whole_place : SceneFaultKind → List Word → ℕ
whole_place (Script fault.BadEscape) words = 0
whole_place (Script fault.LateSetting) words = 0
whole_place (Script fault.BadLine) words = 0
whole_place (Script fault.BadText) words = 0
whole_place (Script fault.BadPrincipal) words = 0
whole_place (Script fault.BadHost) words = 0
whole_place (Script fault.BadNumber) words = 0
whole_place (Script fault.BadWord) words = 0
whole_place (Script fault.Usage) words = option_place fault.Usage words 3
whole_place (Script fault.NoAction) words = option_place fault.NoAction words 3
whole_place (Script fault.BadName) words = option_place fault.BadName words 3
whole_place (Script fault.BadMix) words = option_place fault.BadMix words 3
whole_place (Script fault.NoResource) words = option_place fault.NoResource words 3
whole_place (Script fault.NoPrincipal) words = option_place fault.NoPrincipal words 3
whole_place UnknownWorker words = 0
whole_place BadWorkerName words = 0
whole_place NameTaken words = 0
whole_place BadPartitions words = 0
whole_place BadMax words = 0
whole_place BadRoute words = 0
whole_place BadId words = 0
whole_place NoLaw words = 0

-- the word with such a fault by the reader's own tests, if there is one; `before` are the lines
-- before it
abbrev pub word_place : List (List ℕ) → SceneFaultKind → List Word → ℕ
word_place before kind words = unwrap_or (fault_place before kind words) (whole_place kind words)

abbrev pub count_of : ℕ → List ℕ → ℕ
count_of byte word = length (filter (λ one. one == byte) word)

-- half of a word that a blank in JSON or in a quoted text cuts in two
abbrev pub is_half : List ℕ → Bool
is_half word =
    not (count_of 123 word == count_of 125 word) || count_of 34 word % 2 == 1

-- of a record of too many words its first half is named
abbrev pub half_place : List (List ℕ) → SceneFaultKind → Option ℕ
half_place words kind =
    if same_kind kind (Script fault.BadLine) && word_is words 1 (codes "record")
    && nat_lt 10 (length words)
    then line_where is_half 0 words else None

-- a line of the wrong shape that begins with no word of its own, no principal, and no worker
abbrev pub begins_with_nothing : List (List ℕ) → List (List ℕ) → SceneFaultKind → Bool
begins_with_nothing before words kind =
    same_kind kind (Script fault.BadLine) && not (is_some (form_in line_forms (word_at words 0)))
    && not (has 58 (word_at words 0)) && not (is_some (kind_named before (word_at words 0)))

-- by the words of a line, as they are written in it and as they are read
abbrev pub place_by : List (List ℕ) → List (List ℕ) → SceneFaultKind → Result (List Word) FaultKind → ℕ
place_by before raw kind (Err e) = 0
place_by before raw kind (Ok words) =
    if begins_with_nothing before raw kind then 0 else word_place before kind words

-- a byte order mark, which is a part of the first word
abbrev pub has_mark : List ℕ → Bool
has_mark line = starts_with nat_eq line (239 ∷ 187 ∷ 191 ∷ [])

abbrev pub place_in : List (List ℕ) → List ℕ → SceneFaultKind → ℕ
place_in before line kind =
    if has_mark line then 0
    else unwrap_or (half_place (raw_words line) kind) (place_by before (raw_words line) kind (words_of line))

-- the word that is read amiss, where a line with this fault stands behind others
abbrev pub place_of : List (List ℕ) → List ℕ → SceneFaultKind → ℕ
place_of before line kind =
    unwrap_or (line_where is_misread 0 (raw_words line)) (place_in before line kind)

-- the place that is named: of a word that stands where another is left out, if one is
abbrev pub place_named : List (List ℕ) → Option LeftOut → ℕ → ℕ
place_named words None place = before_ending words place
place_named words (Some lacking) place = place_of_left_out lacking place
