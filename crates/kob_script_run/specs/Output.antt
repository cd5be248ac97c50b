-- What a run reads and writes, by how it ends, and its limits.
use Rattle.std.specs.Prelude.{ℕ, ◌≡◌, List, ◌++◌, ◌<◌, ◌≤◌, length, take, Option, Result, Ok, Err, IfSome}
use Rattle.kob_script_run.specs.declared.fault.InputFault.{InputFault}
use Rattle.kob_script_run.specs.declared.fault.OutputFault.{OutputFault}
use Rattle.kob_script_run.specs.declared.fault.RunFault.{RunFault}
use Rattle.std.specs.List.{concat}
use Rattle.kob_script.specs.Script.{lines_in_blocks, lines_in, ReadsAs}
use Rattle.kob_script_run.specs.declared.input.Input.{Input}
use Rattle.std.specs.Io.KnownBytes.{Appends, Keeps}
use Rattle.kob_broker.specs.State.{open_state, State}
use Rattle.kob_broker.specs.Step.{replies_of}
use Rattle.kob_names.specs.declared.settings.Settings.{Settings}
use Rattle.kob_partition.specs.Retained.{plain_meaning, Retained, retained_meaning}
use Rattle.kob_rights.specs.declared.event.Event.{Event}
use Rattle.kob_rights.specs.declared.reply.Reply.{Reply}
use Rattle.kob_script_run.specs.declared.output.Ended.{Ended}
use Rattle.kob_script_run.specs.declared.output.Ended.TheVariants.{Clean, Fault, Stopped}
use Rattle.kob_script.specs.declared.script.Script.{Script}
use Rattle.kob_script.specs.Printed.{fault_text, text_of_replies, stopped_text}
use Rattle.kob_script_run.specs.declared.fault.InputFault.TheVariants as input
use Rattle.kob_script_run.specs.declared.fault.OutputFault.TheVariants as output
use Rattle.kob_script_run.specs.declared.fault.RunFault.TheVariants as run
use Rattle.kob_script.specs.declared.fault.Fault as fault

-- the most bytes of a script
abbrev pub script_limit : ℕ
script_limit = 16777216

-- the most calls of a reader
abbrev pub read_limit : ℕ
read_limit = 20000000

-- the most bytes of printed replies that are held
abbrev pub piece_limit : ℕ
piece_limit = 65536

-- the room for bytes of the script with which a block is begun
abbrev pub block_size : ℕ
block_size = 65536

-- the fault of a run whose script was not read
abbrev pub unread : InputFault → RunFault
unread (input.ReadFailed failed) = run.ReadFailed
unread input.TooLong = run.TooLong
unread (input.Memory e) = run.Memory e

-- the fault of a run whose output was not written
abbrev pub unwritten : OutputFault → RunFault
unwritten (output.WriteFailed failed) = run.WriteFailed
unwritten (output.Memory e) = run.Memory e

-- the bytes so far
abbrev pub bytes_in : Input → List ℕ
bytes_in input = concat input.blocks.items ++ input.last.items

-- What follows the blocks begins a line.
abbrev pub EndLines : List (List ℕ) → Type 0
EndLines blocks =
    (more : List ℕ) → lines_in (concat blocks ++ more) ≡ lines_in_blocks blocks ++ lines_in more

-- known bytes grow by a prefix of the text that is not all of it
abbrev pub AppendsPart : Option (List ℕ) → Option (List ℕ) → List ℕ → Type 0
AppendsPart old new text = (count : ℕ) × (count < length text) × Appends old new (take count text)

-- known bytes grow by all of the text but its end, which is held
abbrev pub AppendsAllBut : Option (List ℕ) → Option (List ℕ) → List ℕ → List ℕ → Type 0
AppendsAllBut old new text held =
    (written : List ℕ) × (text ≡ written ++ held) × Appends old new written

-- the replies of a broker that stands so
abbrev pub replies_from : State Retained → List Event → List Reply
replies_from state events = replies_of retained_meaning events state

-- The text is that of all replies, or of those to the first events where memory stopped the run.
abbrev pub IsTextOfRun : (List Event → List Reply) → List Event → Ended → List ℕ → Type 0
IsTextOfRun replies events Clean text = text ≡ text_of_replies (replies events)
IsTextOfRun replies events Stopped text =
    (done : ℕ) × (done < length events)
    × (text ≡ text_of_replies (replies (take done events)) ++ stopped_text done)
IsTextOfRun replies events Fault text = ⊥

-- such a text was written
abbrev pub WritesRun : (List Event → List Reply) → List Event → Ended → Option (List ℕ)
    → Option (List ℕ) → Type 0
WritesRun replies events ended old new =
    (text : List ℕ) × IsTextOfRun replies events ended text × Appends old new text

-- a part of such a text was written
abbrev pub WritesPartOfRun : (List Event → List Reply) → List Event → Option (List ℕ)
    → Option (List ℕ) → Type 0
WritesPartOfRun replies events old new =
    (ended : Ended) × (text : List ℕ) × IsTextOfRun replies events ended text
    × AppendsPart old new text

-- the replies of a broker that was opened with the settings, which keeps all accepted batches
abbrev pub replies_to : Settings → List Event → List Reply
replies_to settings events = replies_of plain_meaning events (open_state settings)

-- The text is the output for what was read, by how the run ended: all replies, or those to the
-- first requests where memory stopped it, or the fault of the script.
abbrev pub IsOutput : Result Script fault.Fault → Ended → List ℕ → Type 0
IsOutput (Ok s) ended text = IsTextOfRun (replies_to s.settings) s.events ended text
IsOutput (Err fault) Fault text = text ≡ fault_text fault
IsOutput (Err fault) _ text = ⊥

-- Some output for what was read has the property.
abbrev pub HasOutput : Result Script fault.Fault → (List ℕ → Type 0) → Type 0
HasOutput read P = (ended : Ended) × (text : List ℕ) × IsOutput read ended text × P text

-- Some reading of the bytes has the property. Bytes without `acl` lines have one reading alone.
abbrev pub HasReading : List ℕ → (Result Script fault.Fault → Type 0) → Type 0
HasReading bytes P = (read : Result Script fault.Fault) × ReadsAs bytes read × P read

-- What was written is an output for what was read, by how the run ended.
abbrev pub Writes : Result Script fault.Fault → Ended → Option (List ℕ) → Option (List ℕ) → Type 0
Writes read ended old new = (text : List ℕ) × IsOutput read ended text × Appends old new text

-- after a failed write a part of an output was written, and nothing where memory was out
abbrev pub IsWritten : Result Script fault.Fault → Option (List ℕ) → Option (List ℕ)
    → Result Ended OutputFault → Type 0
IsWritten read old new (Ok ended) = Writes read ended old new
IsWritten read old new (Err (output.WriteFailed failed)) = HasOutput read (AppendsPart old new)
IsWritten read old new (Err (output.Memory e)) = Keeps old new

-- the same for what bytes may be read as
abbrev pub IsWrittenOf : List ℕ → Option (List ℕ) → Option (List ℕ) → Result Ended OutputFault
    → Type 0
IsWrittenOf bytes old new (Err (output.Memory e)) = Keeps old new
IsWrittenOf bytes old new result = HasReading bytes (λ read. IsWritten read old new result)

-- How a run ended on the bytes that its reader had left, as far as they are known, and what was
-- written by then: the output, or a part of it after a failed write, or else nothing.
abbrev pub IsEnd : Option (List ℕ) → Option (List ℕ) → Option (List ℕ) → Result Ended RunFault
    → Type 0
IsEnd input old new (Ok ended) =
    IfSome input (λ bytes. (length bytes ≤ script_limit)
    × HasReading bytes (λ read. Writes read ended old new))
IsEnd input old new (Err run.WriteFailed) =
    IfSome input (λ bytes. (length bytes ≤ script_limit)
    × HasReading bytes (λ read. HasOutput read (AppendsPart old new)))
IsEnd input old new (Err run.TooLong) =
    IfSome input (λ bytes. script_limit < length bytes) × Keeps old new
IsEnd input old new (Err run.ReadFailed) = Keeps old new
IsEnd input old new (Err (run.Memory e)) = Keeps old new
