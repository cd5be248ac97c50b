-- Reading a scene's line, up to the first fault.
use Rattle.std.specs.Prelude.{◌≡◌, Result, Ok, Err, ℕ, List, ◌++◌, codes}
use Rattle.kob_script.specs.declared.fault.FaultKind.{FaultKind}
use Rattle.kob_script.specs.declared.fault.FaultKind.TheVariants.{BadLine}
use Rattle.kob_script.specs.declared.fault.LineError.{LineError}
use Rattle.kob_scene_text.specs.declared.fault.SceneFaultKind.{SceneFaultKind}
use Rattle.kob_scene_text.specs.declared.fault.SceneFaultKind.TheVariants.{Script, UnknownWorker, BadWorkerName, NameTaken, BadPartitions, BadMax, BadRoute, BadId, NoLaw}
use Rattle.kob_scene_text.specs.declared.fault.StepError.{StepError}
use Rattle.kob_scene_text.specs.declared.fault.StepError.TheVariants.{Memory, Fault}
use Rattle.std.specs.Fmt.{decimal}
use Rattle.kob_scene_text.specs.declared.fault.SceneFault.{SceneFault}
use Rattle.kob_script.specs.Printed.{fault_text as line_of_script}
use Rattle.kob_script.specs.declared.fault.LineError.TheVariants as line_error

-- a step of reading, and those after it unless it failed
infixl 10 ◌>>>◌
abbrev pub ◌>>>◌ : {A B : Type 0} → Result A SceneFaultKind → (A → Result B SceneFaultKind)
    → Result B SceneFaultKind
(Ok x) >>> f = f x
(Err kind) >>> f = Err kind

-- what is read as scripts read it
abbrev pub as_scripts : {A : Type 0} → Result A FaultKind → Result A SceneFaultKind
as_scripts (Ok x) = Ok x
as_scripts (Err kind) = Err (Script kind)

-- a line of the wrong shape
abbrev pub bad_line : SceneFaultKind
bad_line = Script BadLine

-- A function failed with the fault of reading, or memory ran out.
abbrev pub Fails : {A : Type 0} → StepError → Result A SceneFaultKind → Type 0
Fails (Memory e) read = Unit {0}
Fails (Fault kind) read = read ≡ Err kind

-- What a function returned is what reading gives, unless memory ran out.
abbrev pub Gives : {A : Type 0} → Result A StepError → Result A SceneFaultKind → Type 0
Gives (Ok x) read = read ≡ Ok x
Gives (Err error) read = Fails error read

-- the same of what is seen by a view
abbrev pub GivesSeen : {A B : Type 0} → (A → B) → Result A StepError → Result B SceneFaultKind
    → Type 0
GivesSeen view (Ok x) read = read ≡ Ok (view x)
GivesSeen view (Err error) read = Fails error read

-- the error of a line of a script, as one of a scene's
abbrev pub step_error : LineError → StepError
step_error (line_error.Memory e) = Memory e
step_error (line_error.Fault kind) = Fault (Script kind)

-- How a scene's fault is printed.

-- the name of a kind that is none of scripts
abbrev pub kind_text : SceneFaultKind → List ℕ
kind_text (Script kind) = codes ""
kind_text UnknownWorker = codes "UnknownWorker"
kind_text BadWorkerName = codes "BadWorkerName"
kind_text NameTaken = codes "NameTaken"
kind_text BadPartitions = codes "BadPartitions"
kind_text BadMax = codes "BadMax"
kind_text BadRoute = codes "BadRoute"
kind_text BadId = codes "BadId"
kind_text NoLaw = codes "NoLaw"

-- a fault of scripts is printed as theirs are
abbrev pub line_of_kind : ℕ → SceneFaultKind → List ℕ
line_of_kind line (Script kind) = line_of_script (record { line = line; kind = kind })
line_of_kind line kind =
    codes "fault line " ++ decimal line ++ codes " " ++ kind_text kind ++ codes "\n"

-- the whole output for a scene with a fault
abbrev pub scene_fault_text : SceneFault → List ℕ
scene_fault_text fault = line_of_kind fault.line fault.kind
