-- What becomes of an error of the database.
use Rattle.std.specs.Prelude.{alloc_error}
use Rattle.sqlite.specs.declared.error.Error.{Error}
use Rattle.sqlite.specs.declared.error.Error.TheVariants.{SqliteFailure}
use Rattle.sqlite.specs.declared.error.ErrorCode.TheVariants.{OutOfMemory}
use Rattle.kob_outbox.specs.declared.fault.OutboxFault.{OutboxFault}
use Rattle.kob_outbox.specs.declared.fault.OutboxFault.TheVariants.{Memory, Store}
use Rattle.kob_outbox.specs.declared.fault.MarkFault.{MarkFault}
use Rattle.kob_outbox.specs.declared.fault.MarkFault.TheVariants as of_mark
use Rattle.kob_outbox.specs.declared.fault.RecordFault.{RecordFault}
use Rattle.kob_outbox.specs.declared.fault.RecordFault.TheVariants as of_record

-- out of memory is distinguished from all else
abbrev pub fault_of : Error → OutboxFault
fault_of (SqliteFailure OutOfMemory) = Memory alloc_error
fault_of _ = Store

-- the same for a record
abbrev pub record_fault : OutboxFault → RecordFault
record_fault (Memory refused) = of_record.Memory refused
record_fault Store = of_record.Store

-- the same for the mark
abbrev pub mark_fault : OutboxFault → MarkFault
mark_fault (Memory refused) = of_mark.Memory refused
mark_fault Store = of_mark.Store
