-- What a function returned may be what reading gives, where that is not one thing.
use Rattle.std.specs.Prelude.{◌≡◌, Result, Ok, Err}
use Rattle.kob_script.specs.declared.fault.Fault as declared
use Rattle.kob_script.specs.declared.fault.FaultKind.{FaultKind}
use Rattle.kob_script.specs.declared.fault.LineError.{LineError}
use Rattle.kob_script.specs.declared.fault.LineError.TheVariants.{Memory, Fault}
use Rattle.kob_script.specs.declared.fault.ScriptError.{ScriptError}
use Rattle.kob_script.specs.declared.fault.ScriptError.TheVariants as script_error

-- an error; nothing is said where memory ran out
abbrev pub MayFail : {B : Type 0} → LineError → (Result B FaultKind → Type 0) → Type 0
MayFail (Memory e) Reads = Unit {0}
MayFail (Fault kind) Reads = Reads (Err kind)

-- by a view of what was read
abbrev pub MayGive : {A B : Type 0} → (A → B) → Result A LineError → (Result B FaultKind → Type 0)
    → Type 0
MayGive view (Ok x) Reads = Reads (Ok (view x))
MayGive view (Err error) Reads = MayFail error Reads

-- What a function returned is by a view what reading gives, up to its fault, unless memory ran out.
abbrev pub FailsAt : {A : Type 0} → ScriptError → Result A declared.Fault → Type 0
FailsAt (script_error.Memory e) read = Unit {0}
FailsAt (script_error.Fault fault) read = read ≡ Err fault

abbrev pub GivesAt : {A B : Type 0} → (A → B) → Result A ScriptError → Result B declared.Fault
    → Type 0
GivesAt view (Ok x) read = read ≡ Ok (view x)
GivesAt view (Err error) read = FailsAt error read
