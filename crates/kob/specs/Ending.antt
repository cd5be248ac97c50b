-- The exit status: 0 where all was done, 1 for a fault, 2 out of memory, 3 where answers differ.
use Rattle.std.specs.Prelude.{◌≡◌, ◌≢◌, ◌⊎◌, ℕ, Bool, true, false, List, [], ◌∷◌, Result, Ok, Err}
use Rattle.std.specs.IoError.{error_kind}
use Rattle.std.specs.declared.io.Error.{Error}
use Rattle.std.specs.declared.io.ErrorKind.TheVariants as kind
use Rattle.kob.specs.declared.input.InputFault.{InputFault}
use Rattle.kob.specs.declared.input.InputFault.TheVariants as input
use Rattle.kob.specs.declared.ending.Ending.{Ending}
use Rattle.kob.specs.declared.ending.Ending.TheVariants.{Whole, Differs, Failed, OutOfMemory}
use Rattle.kob.specs.declared.policy_lists.Stop.{Stop}
use Rattle.kob.specs.declared.policy_lists.Stop.TheVariants as stop
use Rattle.kob_scene_play.specs.declared.fault.PlayFault.{PlayFault}
use Rattle.kob_scene_play.specs.declared.fault.PlayFault.TheVariants as play
use Rattle.kob_scene_play.specs.declared.text.Ended.{Ended}
use Rattle.kob_scene_play.specs.declared.text.Ended.TheVariants as ended
use Rattle.kob_topic_check.specs.declared.reading.ReadError.{ReadError}
use Rattle.kob_topic_check.specs.declared.reading.ReadError.TheVariants as list

abbrev pub status_of : Ending → ℕ
status_of Whole = 0
status_of Failed = 1
status_of OutOfMemory = 2
status_of Differs = 3

-- of two ends the worse: out of memory, then a fault, then answers that differ
abbrev pub worse : Ending → Ending → Ending
worse Whole other = other
worse Differs Whole = Differs
worse Differs Differs = Differs
worse Differs Failed = Failed
worse Differs OutOfMemory = OutOfMemory
worse Failed Whole = Failed
worse Failed Differs = Failed
worse Failed Failed = Failed
worse Failed OutOfMemory = OutOfMemory
worse OutOfMemory other = OutOfMemory

abbrev pub ending_of_fault : PlayFault → Ending
ending_of_fault (play.Memory e) = OutOfMemory
ending_of_fault play.JournalFull = Failed
ending_of_fault play.Store = Failed
ending_of_fault play.NoWorker = Failed
ending_of_fault play.TooMany = Failed
ending_of_fault play.NotLost = Failed
ending_of_fault play.NotDue = Failed
ending_of_fault play.WriteFailed = Failed

abbrev pub ending_of_play : Result Ended PlayFault → Ending
ending_of_play (Ok ended.Clean) = Whole
ending_of_play (Ok (ended.Unmet unmet)) = Differs
ending_of_play (Ok (ended.Fault fault)) = Failed
ending_of_play (Ok (ended.Stopped fault)) = ending_of_fault fault
ending_of_play (Err fault) = ending_of_fault fault

-- a list for a topic that was not read
abbrev pub ending_of_list : ReadError → Ending
ending_of_list (list.Memory refused) = OutOfMemory
ending_of_list (list.Line line) = Failed

-- what was to be done was not done whole
abbrev pub IsFailure : Ending → Type 0
IsFailure ending = (ending ≡ Failed) ⊎ (ending ≡ OutOfMemory)

-- a part of the questions of `policy`
abbrev pub ending_of_part : Result Ending Stop → Ending
ending_of_part (Ok ending) = ending
ending_of_part (Err (stop.Ended ending)) = ending
ending_of_part (Err (stop.Memory refused)) = OutOfMemory

-- A part that stops ends as a failure.
abbrev pub IsFailedStop : Stop → Type 0
IsFailedStop (stop.Ended ending) = IsFailure ending
IsFailedStop (stop.Memory refused) = Unit {0}

-- an answer that is not the one that was expected
abbrev pub ending_of_answers : Bool → Ending
ending_of_answers true = Differs
ending_of_answers false = Whole

-- a difference of two lists that says nothing is none
abbrev pub ending_of_changes : {A : Type 0} → List A → Ending
ending_of_changes [] = Whole
ending_of_changes (first ∷ rest) = Differs

-- What the system refused, for want of memory or not, ends so.
abbrev pub EndsRefused : Error → Ending → Type 0
EndsRefused error ending =
    ((error_kind error ≡ kind.OutOfMemory) × (ending ≡ OutOfMemory))
    ⊎ ((error_kind error ≢ kind.OutOfMemory) × (ending ≡ Failed))

-- A text that was not read ends so.
abbrev pub EndsUnread : InputFault → Ending → Type 0
EndsUnread (input.Failed error) ending = EndsRefused error ending
EndsUnread input.SceneTooLong ending = ending ≡ Failed
EndsUnread input.ListTooLong ending = ending ≡ Failed
