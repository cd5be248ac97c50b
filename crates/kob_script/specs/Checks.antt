-- A script as it is checked, line by line.
use Rattle.std.specs.Prelude.{◌≡◌, ℕ, List, [], ◌∷◌, ◌++◌, Option, None, Result, Ok, Err, length, if◌then◌else◌}
use Rattle.std.specs.Result.{result_err}
use Rattle.kob_script.specs.CommandLines.{line_fault}
use Rattle.kob_script.specs.declared.checked.CheckedScript.{CheckedScript}
use Rattle.kob_script.specs.declared.script.Checking.{Checking}
use Rattle.kob_script.specs.declared.fault.ScriptError.TheVariants as script_error
use Rattle.kob_script.specs.Words.{Fails, Fault, FaultKind, LineError, Memory, Word, words_of}
use Rattle.kob_script.specs.Script.{CliArgs, Event, asks_clap, is_setting, line_words, with_line, with_setting, IsAnswerToLine, LineReadsAs, Script, ScriptError}

-- the script so far, without opening bindings, which asks for these events
abbrev pub script_so_far : Checking → List Event → Script
script_so_far checking events = record {
  settings = record { supers = checking.supers.items; opening = []; everyone = checking.everyone };
  events = events;
}

-- The script as it is now is what reading gives, unless memory ran out; its events are counted.
abbrev pub ChecksNext : Checking → Result (Unit {0}) LineError → Result Script FaultKind → Type 0
ChecksNext checking (Ok done) read =
    (events : List Event) × (checking.requests ≡ length events)
    × (read ≡ Ok (script_so_far checking events))
ChecksNext checking (Err error) read = Fails error read

-- the fault of a line's words that is found before clap's answer is looked at
abbrev pub first_fault : Script → List Word → Option FaultKind
first_fault s [] = None
first_fault s (first ∷ arguments) =
    if is_setting first then result_err (with_setting s first arguments)
    else line_fault (first ∷ arguments)

-- what is kept of clap's answer to words: nothing if it was not asked
abbrev pub kept_answer : List Word → Option CliArgs → List (Option CliArgs)
kept_answer words answer = if asks_clap words then answer ∷ [] else []

-- A line was read by an answer of clap's, which is kept if clap was asked, unless memory ran out. That
-- hides no escape that is not whole.
abbrev pub ChecksLine : Script → List ℕ → Checking → List (Option CliArgs) → List (Option CliArgs)
    → Result (Unit {0}) LineError → Type 0
ChecksLine s line checking old new (Ok done) =
    (answer : Option CliArgs) × IsAnswerToLine (words_of line) answer
    × (new ≡ old ++ kept_answer (line_words line) answer)
    × ChecksNext checking (Ok done) (with_line answer s line)
ChecksLine s line checking old new (Err (Memory e)) = result_err (words_of line) ≡ None
ChecksLine s line checking old new (Err (Fault kind)) = LineReadsAs s line (Err kind)

-- what was wrong, with the number of its line
abbrev pub fault_at : ℕ → LineError → ScriptError
fault_at line (Memory e) = script_error.Memory e
fault_at line (Fault kind) = script_error.Fault (record { line = line; kind = kind })

-- the script that was checked, with all that it asks for
abbrev pub checked : CheckedScript → Script
checked script = record { settings = script.settings; events = script.requests }

-- what was read, if a script was checked
abbrev pub as_read : Result CheckedScript ScriptError → Result Script ScriptError
as_read (Ok script) = Ok (checked script)
as_read (Err error) = Err error
