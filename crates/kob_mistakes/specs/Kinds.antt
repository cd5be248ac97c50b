-- The kinds of questions: the word that each begins with, and its form.
use Rattle.std.specs.Prelude.{ℕ, Bool, true, false, ◌||◌, List, [], ◌∷◌, Option, Some, None, codes, find, map, if◌then◌else◌}
use Rattle.std.specs.Option.{is_some}
use Rattle.std.specs.Str.{bytes_eq}
use Rattle.kob_mistakes.specs.Spelling.{nearest}
use Rattle.kob_mistakes.specs.declared.kinds.Kind.{Kind}
use Rattle.kob_mistakes.specs.declared.kinds.Kind.TheVariants.{May, Expect, Who, Rights, Sees, Topic, Summary, Unused, Shadowed, Removable}
use Rattle.kob_mistakes.specs.declared.kinds.Meant.{Meant}
use Rattle.kob_mistakes.specs.declared.kinds.Meant.TheVariants.{File, Words, Misspelt}

abbrev pub kind_name : Kind → List ℕ
kind_name May = codes "may"
kind_name Expect = codes "expect"
kind_name Who = codes "who"
kind_name Rights = codes "rights"
kind_name Sees = codes "sees"
kind_name Topic = codes "topic"
kind_name Summary = codes "summary"
kind_name Unused = codes "unused"
kind_name Shadowed = codes "shadowed"
kind_name Removable = codes "removable"

-- a question of this word and no other
abbrev pub is_alone : Kind → Bool
is_alone May = false
is_alone Expect = false
is_alone Who = false
is_alone Rights = false
is_alone Sees = false
is_alone Topic = false
is_alone Summary = true
is_alone Unused = true
is_alone Shadowed = true
is_alone Removable = true

-- the form of such a question
unfoldable pub kind_form : Kind → List ℕ
kind_form May =
    codes "may PRINCIPAL HOST OPERATION RESOURCE NAME, or produce TOPIC, or consume TOPIC GROUP, or a request"
kind_form Expect = codes "expect yes or expect no, and then may .."
kind_form Who =
    codes "who OPERATION RESOURCE [prefix] NAME, or NAME HOST, or produce TOPIC, or consume TOPIC GROUP"
kind_form Rights = codes "rights PRINCIPAL [HOST]"
kind_form Sees = codes "sees PRINCIPAL HOST"
kind_form Topic = codes "topic NAME"
kind_form Summary = codes "summary"
kind_form Unused = codes "unused"
kind_form Shadowed = codes "shadowed"
kind_form Removable = codes "removable"

abbrev pub kinds : List Kind
kinds =
    May ∷ Expect ∷ Who ∷ Rights ∷ Sees ∷ Topic ∷ Summary ∷ Unused ∷ Shadowed ∷ Removable ∷ []

-- the kind of question that begins with a word
abbrev pub kind_named : List ℕ → Option Kind
kind_named word = find (λ kind. bytes_eq word (kind_name kind)) kinds

abbrev pub begins_question : List ℕ → Bool
begins_question word = is_some (kind_named word)

-- the kind whose word is nearest
abbrev pub kind_called : Option (List ℕ) → Option Kind
kind_called None = None
kind_called (Some name) = kind_named name

abbrev pub nearest_kind : List ℕ → Option Kind
nearest_kind word = kind_called (nearest word (map kind_name kinds))

-- a word that names no file that can be read: a question whose other words stand apart, or, where
-- there is no such file, one that is misspelt
abbrev pub meant_by_nearest : Option Kind → Meant
meant_by_nearest None = File
meant_by_nearest (Some kind) = Misspelt kind

abbrev pub meant_by : List ℕ → Bool → Meant
meant_by word is_missing =
    if begins_question word || bytes_eq word (codes "log") then Words
    else (if is_missing then meant_by_nearest (nearest_kind word) else File)
