-- The program's status: 0 for a script that was served, 2 for out of memory, 1 for any other end.
use Rattle.std.specs.Prelude.{ℕ, Result, Ok, Err}
use Rattle.kob_script_run.specs.declared.fault.RunFault.{RunFault}
use Rattle.kob_script_run.specs.declared.fault.RunFault.TheVariants.{ReadFailed, WriteFailed, TooLong, Memory}
use Rattle.kob_script_run.specs.declared.output.Ended.{Ended}
use Rattle.kob_script_run.specs.declared.output.Ended.TheVariants.{Clean, Fault, Stopped}

abbrev pub status_of : Result Ended RunFault → ℕ
status_of (Ok Clean) = 0
status_of (Ok Fault) = 1
status_of (Ok Stopped) = 2
status_of (Err (Memory e)) = 2
status_of (Err ReadFailed) = 1
status_of (Err WriteFailed) = 1
status_of (Err TooLong) = 1
