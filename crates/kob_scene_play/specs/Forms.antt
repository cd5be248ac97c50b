-- How the answers of a step are shown.
use Rattle.kob_scene_play.specs.declared.form.Form.{Form}
use Rattle.kob_scene_play.specs.declared.form.Form.TheVariants as forms
use Rattle.kob_scene_play.specs.declared.form.Shown.{Shown}
use Rattle.kob_scene_play.specs.declared.form.Shown.TheVariants.{Plain, Trace, Json}
use Rattle.kob_scene_play.specs.Json.{json_text}
use Rattle.kob_scene_play.specs.Needs.{needs_of, noted}
use Rattle.kob_scene_text.specs.Reading.{scene_fault_text}
use Rattle.kob_scene_text.specs.declared.fault.SceneFault.{SceneFault}
use Rattle.kob_script.specs.Printed.{stopped_text}
use Rattle.kob_script.specs.Script.{lines_in}
use Rattle.kob_shared.specs.declared.journal.Entry.{Entry}
use Rattle.std.specs.Fmt.{decimal}
use Rattle.std.specs.Prelude.{ℕ, zero, suc, ◌-◌, ◌==◌, List, [], ◌++◌, Option, Some, None, codes, get_or, if◌then◌else◌, length, slice_get}

-- the trace has the lines of the text
abbrev pub shown_by : Form → List ℕ → Shown
shown_by forms.Plain text = Plain
shown_by forms.Trace text = Trace (lines_in text)
shown_by forms.Json text = Json

-- the line of the step at a place; 0 if the step has none
abbrev pub line_at : List ℕ → ℕ → ℕ
line_at lines place = get_or lines place 0

-- the line of the step before it
abbrev pub line_before : List ℕ → ℕ → ℕ
line_before lines zero = 0
line_before lines (suc place) = line_at lines place

-- the text of a line before its answers, once for all of its steps
abbrev pub head_text : List (List ℕ) → List ℕ → ℕ → List ℕ
head_text texts lines place =
    if line_at lines place == line_before lines place then []
    else codes "> " ++ get_or texts (line_at lines place - 1) [] ++ codes "\n"

-- the last request of a step, if it made one; before the step there were so many requests
abbrev pub last_entry : ℕ → List Entry → Option Entry
last_entry before journal =
    if length journal == before then None else slice_get journal (length journal - 1)

abbrev pub entry_needs : Option Entry → List ℕ
entry_needs None = []
entry_needs (Some entry) = needs_of entry.event.request entry.reply

-- what the last request of a step lacked
abbrev pub last_needs : ℕ → List Entry → List ℕ
last_needs before journal = entry_needs (last_entry before journal)

-- the line of the trace about the request of a principal; a worker's step has it in its own line
abbrev pub entry_note : Option Entry → List ℕ
entry_note None = []
entry_note (Some entry) =
    if entry.worker == 0 then noted (needs_of entry.event.request entry.reply) else []

-- What is shown of the answers to the step at a place. Before it the journal had so many entries.
abbrev pub shown_text : Shown → List ℕ → ℕ → ℕ → List Entry → List ℕ → List ℕ
shown_text Plain lines place before journal answers = answers
shown_text (Trace texts) lines place before journal answers =
    head_text texts lines place ++ answers ++ entry_note (last_entry before journal)
shown_text Json lines place before journal answers = json_text (line_at lines place) answers

-- the last line of a scene that stopped after so many answers
abbrev pub stopped_shown : Shown → ℕ → List ℕ
stopped_shown Plain told = stopped_text told
stopped_shown (Trace texts) told = stopped_text told
stopped_shown Json told =
    codes "{\"kind\":\"stopped\",\"words\":[\"after\",\"" ++ decimal told ++ codes "\"]}\n"

-- the whole output for a text with a fault
abbrev pub fault_shown : Form → SceneFault → List ℕ
fault_shown forms.Plain fault = scene_fault_text fault
fault_shown forms.Trace fault = scene_fault_text fault
fault_shown forms.Json fault = json_text fault.line (scene_fault_text fault)
