-- What is reported of a fault of this kind, on the line of a number of a text.
use Rattle.std.specs.Prelude.{ℕ, List, Option, Some, None, length}
use Rattle.std.specs.Option.{option_or}
use Rattle.kob_mistakes.specs.Forms.{form_by}
use Rattle.kob_mistakes.specs.Hints.{hint_on}
use Rattle.kob_mistakes.specs.LeftOut.{left_out, left_out_text}
use Rattle.kob_mistakes.specs.Lines.{line_of, lines_before}
use Rattle.kob_mistakes.specs.Names.{nearest_at}
use Rattle.kob_mistakes.specs.Places.{place_named, place_of}
use Rattle.kob_mistakes.specs.Quotes.{quoted_words}
use Rattle.kob_mistakes.specs.Records.{hint_on_record}
use Rattle.kob_mistakes.specs.Rules.{rule_at}
use Rattle.kob_mistakes.specs.Workers.{stepping_at}
use Rattle.kob_mistakes.specs.declared.left_out.LeftOut.{LeftOut}
use Rattle.kob_mistakes.specs.declared.question.Lines.{Lines}
use Rattle.kob_mistakes.specs.declared.question.Lines.TheVariants.{Bindings, Questions}
use Rattle.kob_scene_text.specs.declared.fault.SceneFaultKind.{SceneFaultKind}
use Rattle.kob_mistakes.specs.declared.worker.WorkerKind.{WorkerKind}
use Rattle.kob_script.specs.Script.{lines_in}
use Rattle.kob_script.specs.Words.{raw_words}

-- where a fault is found on a line
abbrev pub fault_at : List ℕ → ℕ → SceneFaultKind → ℕ
fault_at text line kind = place_of (lines_before text line) (line_of text line) kind

-- what is left out before it
abbrev pub lacking_at : List ℕ → ℕ → SceneFaultKind → Option LeftOut
lacking_at text line kind =
    left_out (line_of text line) (raw_words (line_of text line)) (fault_at text line kind)

-- the place that is named
abbrev pub place_at : List ℕ → ℕ → SceneFaultKind → ℕ
place_at text line kind = place_named (raw_words (line_of text line)) (lacking_at text line kind)
    (fault_at text line kind)

abbrev pub hint_named : Option LeftOut → List ℕ → List ℕ → List (List ℕ) → ℕ → Option (List ℕ)
hint_named (Some lacking) text line words place = Some (left_out_text lacking)
hint_named None text line words place =
    option_or (hint_on_record words place) (hint_on text line (length words))

abbrev pub hint_at : List ℕ → ℕ → SceneFaultKind → Option (List ℕ)
hint_at text line kind = option_or (hint_named (lacking_at text line kind) text (line_of text line)
    (raw_words (line_of text line)) (place_at text line kind))
    (rule_at kind (raw_words (line_of text line)) (place_at text line kind))

-- the worker that a step at a place is not one of
abbrev pub stepping_on : List ℕ → ℕ → ℕ → Option WorkerKind
stepping_on text line place =
    stepping_at (lines_before text line) (raw_words (line_of text line)) place

abbrev pub nearest_on : List ℕ → ℕ → SceneFaultKind → ℕ → Option (List ℕ)
nearest_on text line kind place = nearest_at (lines_in text) (stepping_on text line place)
    (raw_words (line_of text line)) kind place

abbrev pub form_at : List ℕ → ℕ → SceneFaultKind → ℕ → List ℕ
form_at text line kind place =
    form_by kind (stepping_on text line place) (raw_words (line_of text line))

-- the words of a line, as they are written in it
abbrev pub words_in : Lines → List ℕ → List (List ℕ)
words_in Bindings line = raw_words line
words_in Questions line = quoted_words line
