-- A script: settings, then requests, a line each; what it may be read as; the requests left of it.
use Rattle.std.specs.List.{list_all, concat}
use Rattle.std.specs.Prelude.{IsOk, IfOk, MatchOption, ℕ, Bool, true, false, ◌||◌, List, [], ◌∷◌, ◌++◌, Result, Ok, Err, codes, if◌then◌else◌, bytes_eq, ◌+◌, Option, None, map, nat_lt, length, ◌≡◌, ◌&&◌, not, Some, is_some, drop, slice_index_or}
use Rattle.std.specs.Result.{result_unwrap_or}
use Rattle.bstr.specs.Text.{lines_of, without_terminator}
use Rattle.kob_acl_cli.specs.Lines.{IsReadOf, is_taken, refusals, rows_of_line}
use Rattle.kob_names.specs.declared.settings.Settings.{Settings}
pub use Rattle.kob_script.specs.CommandLines.{AreRead, events_of, CliArgs, asked_by, Event}
use Rattle.kob_script.specs.Words.{◌>>=◌, each, BadLine, LateSetting, FaultKind, named_principal, text_of, Word, words_of}
use Rattle.kob_script.specs.declared.fault.Fault.{Fault}
pub use Rattle.kob_script.specs.declared.fault.ScriptError.{ScriptError}
pub use Rattle.kob_script.specs.declared.script.Script.{Script}
use Rattle.kob_script.specs.declared.requests.Blocks.{Blocks}
use Rattle.kob_script.specs.declared.requests.Requests.TheInside.{Inside}
use Rattle.kob_script.specs.declared.fault.ScriptError.TheVariants as script_error

-- the word that begins a line with a super user
abbrev pub is_super : Word → Bool
is_super first = bytes_eq first.decoded (codes "super")

-- a line with one of these first words is a setting, whatever follows
abbrev pub is_setting : Word → Bool
is_setting first = is_super first || bytes_eq first.decoded (codes "everyone")

-- no super users, no bindings in force, and nothing open to everyone
abbrev pub no_settings : Settings
no_settings = record { supers = []; opening = []; everyone = false }

-- super PRINCIPAL
abbrev pub super_of : List Word → Result (List ℕ) FaultKind
super_of (name ∷ []) = named_principal name
super_of _ = Err BadLine

-- everyone on, or everyone off
abbrev pub everyone_of : List Word → Result Bool FaultKind
everyone_of (word ∷ []) =
    if bytes_eq word.decoded (codes "on") then Ok true
    else (if bytes_eq word.decoded (codes "off") then Ok false else Err BadLine)
everyone_of _ = Err BadLine

-- the settings with what a line says that begins with this word; the last line `everyone` counts
abbrev pub settings_with : Settings → Word → List Word → Result Settings FaultKind
settings_with settings first arguments =
    if is_super first then
    (super_of arguments >>= λ name. Ok (record settings { supers = settings.supers ++ name ∷ [] }))
    else (everyone_of arguments >>= λ everyone. Ok (record settings { everyone = everyone }))

-- the script with a setting more; after a request it is late
abbrev pub with_setting : Script → Word → List Word → Result Script FaultKind
with_setting s first arguments =
    if nat_lt 0 (length s.events) then Err LateSetting
    else (settings_with s.settings first arguments
    >>= λ settings. Ok (record { settings = settings; events = s.events }))

-- the script with what a line asks for, by clap's answer to it
abbrev pub with_events : Option CliArgs → Script → List Word → Result Script FaultKind
with_events answer s words =
    events_of answer words >>= λ events. Ok
    (record { settings = s.settings; events = s.events ++ events })

-- the script with a line more: a skipped one, which has no words, a setting, or what it asks for
abbrev pub with_words : Option CliArgs → Script → List Word → Result Script FaultKind
with_words answer s [] = Ok s
with_words answer s (first ∷ arguments) =
    if is_setting first then with_setting s first arguments
    else with_events answer s (first ∷ arguments)

unfoldable pub with_line : Option CliArgs → Script → List ℕ → Result Script FaultKind
with_line answer s line = words_of line >>= with_words answer s

-- the lines after one, whose number is given, unless that one has a fault
abbrev pub then_lines : ℕ → Result Script FaultKind → (Script → Result Script Fault)
    → Result Script Fault
then_lines number (Ok next) others = others next
then_lines number (Err kind) others = Err (record { line = number; kind = kind })

-- the lines from one on, whose number is given, up to the first fault; clap is not asked
unfoldable pub lines_from : Script → ℕ → List (List ℕ) → Result Script Fault
lines_from s number [] = Ok s
lines_from s number (line ∷ lines) =
    then_lines number (with_line None s line) (λ next. lines_from next (number + 1) lines)

-- the lines of the bytes, without their ends
abbrev pub lines_in : List ℕ → List (List ℕ)
lines_in text = map without_terminator (lines_of text)

abbrev pub empty_script : Script
empty_script = record { settings = no_settings; events = [] }

-- the script that bytes without `acl` lines write, or its first fault, with lines counted from 1
unfoldable pub script_of : List ℕ → Result Script Fault
script_of text = lines_from empty_script 1 (lines_in text)

-- clap may answer options that it reads of the texts, and refuse texts that it doesn't take
abbrev pub MayAnswer : List (List ℕ) → Option CliArgs → Type 0
MayAnswer texts (Some args) = IsReadOf (rows_of_line texts) args × (refusals texts ≡ [])
MayAnswer texts None = is_taken texts ≡ true → ⊥

-- the words after `acl`, if a line asks by it
abbrev pub after_acl : List Word → Option (List Word)
after_acl (first ∷ host ∷ command ∷ arguments) =
    if not (is_setting first) && bytes_eq command.decoded
    (codes "acl") then Some arguments else None
after_acl _ = None

-- words of which clap is asked
abbrev pub asks_clap : List Word → Bool
asks_clap words = is_some (after_acl words)

-- the words of a line, none if it has an escape that is not whole
abbrev pub line_words : List ℕ → List Word
line_words line = result_unwrap_or (words_of line) []

-- clap may have answered this to words of a line; it is asked about texts alone, behind `acl`
abbrev pub IsAnswerTo : List Word → Option CliArgs → Type 0
IsAnswerTo words answer =
    MatchOption (after_acl words) (answer ≡ None) (λ arguments.
    IfOk (each text_of arguments) (λ texts. MayAnswer texts answer))

-- nothing is asked of a line with an escape that is not whole
abbrev pub IsAnswerToLine : Result (List Word) FaultKind → Option CliArgs → Type 0
IsAnswerToLine line answer = IfOk line (λ words. IsAnswerTo words answer)

-- with a line more, the script may be this
abbrev pub LineReadsAs : Script → List ℕ → Result Script FaultKind → Type 0
LineReadsAs s line read =
    (answer : Option CliArgs) × IsAnswerToLine (words_of line) answer
    × (with_line answer s line ≡ read)

-- the lines after one may be read as this, unless that one has a fault
abbrev pub ThenLines : ℕ → Result Script FaultKind → (Script → Type 0) → Result Script Fault
    → Type 0
ThenLines number (Ok s) Others read = Others s
ThenLines number (Err kind) Others read = read ≡ Err (record { line = number; kind = kind })

-- the lines from one on, whose number is given, may be read as this
unfoldable pub LinesFrom : Script → ℕ → List (List ℕ) → Result Script Fault → Type 0
LinesFrom s number [] read = read ≡ Ok s
LinesFrom s number (line ∷ lines) read =
    (first : Result Script FaultKind) × LineReadsAs s line first
    × ThenLines number first (λ next. LinesFrom next (number + 1) lines read) read

-- The bytes may be read as this script, or as having this first fault, with lines counted from 1.
abbrev pub ReadsAs : List ℕ → Result Script Fault → Type 0
ReadsAs text read = LinesFrom empty_script 1 (lines_in text) read

-- No line of the bytes asks by `acl`.
abbrev pub HasNoAclLine : List ℕ → Type 0
HasNoAclLine text = list_all (λ line. not (asks_clap (line_words line))) (lines_in text) ≡ true

-- The script or the fault that was read has the property, unless memory ran out.
abbrev pub IfRead : Result Script ScriptError → (Result Script Fault → Type 0) → Type 0
IfRead (Ok script) P = P (Ok script)
IfRead (Err (script_error.Memory e)) P = Unit {0}
IfRead (Err (script_error.Fault fault)) P = P (Err fault)

-- the lines of each block, one block after another
abbrev pub lines_in_blocks : List (List ℕ) → List (List ℕ)
lines_in_blocks [] = []
lines_in_blocks (block ∷ blocks) = lines_in block ++ lines_in_blocks blocks

-- No line reaches over the end of a block.
abbrev pub AreWholeLines : List (List ℕ) → Type 0
AreWholeLines blocks = lines_in_blocks blocks ≡ lines_in (concat blocks)

-- the bytes of the block at the front that were not read
abbrev pub rest_of : Blocks → List ℕ
rest_of blocks = drop blocks.at blocks.front

-- the lines that were not read
abbrev pub lines_left : Blocks → List (List ℕ)
lines_left blocks = lines_in (rest_of blocks) ++ lines_in_blocks blocks.later.items

-- the number of lines that were not read and of blocks after the one at the front
abbrev pub steps_left : Blocks → ℕ
steps_left blocks = length (lines_left blocks) + length blocks.later.items

-- what words ask for, by clap's answer to them; a setting asks for nothing
abbrev pub requests_of : Option CliArgs → List Word → Result (List Event) FaultKind
requests_of answer [] = Ok []
requests_of answer (first ∷ arguments) =
    if is_setting first then Ok [] else asked_by answer (first ∷ arguments)

-- what a line asks for
abbrev pub requests_on : Option CliArgs → List ℕ → Result (List Event) FaultKind
requests_on answer line = words_of line >>= requests_of answer

-- the answers that are left after words
abbrev pub answers_after : List Word → List (Option CliArgs) → List (Option CliArgs)
answers_after words answers = if asks_clap words then drop 1 answers else answers

-- what lines ask for, in order; each that clap was asked about, by the first of the answers left
unfoldable pub requests_in : List (List ℕ) → List (Option CliArgs) → Result (List Event) FaultKind
requests_in [] answers = Ok []
requests_in (line ∷ lines) answers = do
  first ← requests_on (slice_index_or answers 0 None) line
  others ← requests_in lines (answers_after (line_words line) answers)
  Ok (first ++ others)

-- what the lines that were not read ask for
abbrev pub lines_ask : Blocks → List (Option CliArgs) → Result (List Event) FaultKind
lines_ask blocks answers = requests_in (lines_left blocks) answers

-- the requests that were not given: those of the line that was read last, and of the lines after it
abbrev pub requests_left : Inside → List Event
requests_left requests =
    requests.asked.items
    ++ result_unwrap_or (lines_ask requests.blocks requests.answers.items) []

-- No line that is left has a fault, and as many requests are left as are counted.
pub record AreCounted (requests : Inside) : Type 0 where
  pub checked : IsOk (lines_ask requests.blocks requests.answers.items)
  pub count : requests.left ≡ length (requests_left requests)
