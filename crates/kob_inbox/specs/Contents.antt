-- What an inbox holds, and what taking records in does to it.
use Rattle.std.specs.Prelude.{alloc_error}
use Rattle.std.specs.Prelude.{◌≡◌, ℕ, List, suc, length, Option, false, bytes_eq, [], ◌∷◌, ◌++◌, Bool, if◌then◌else◌, None, Some, map}
use Rattle.sqlite.specs.Tree.{IsAscending}
use Rattle.std.specs.List.{list_any}
use Rattle.kob_names.specs.declared.record.Record.{Record}
use Rattle.kob_outbox.specs.Contents.{id_text}
use Rattle.kob_router.specs.Route.{event_id}
use Rattle.kob_router.specs.declared.place.Place.{Place}
use Rattle.kob_inbox.specs.declared.inbox.TakeIn.{TakeIn}
use Rattle.kob_inbox.specs.declared.inbox.TakeIn.TheVariants.{Taken, Seen, NoEventId}
use Rattle.kob_inbox.specs.declared.inbox_row.InboxRow.{InboxRow}
use Rattle.kob_inbox.specs.declared.origin.Origin.{Origin}
use Rattle.sqlite.specs.declared.error.Error.{Error}
use Rattle.sqlite.specs.declared.error.Error.TheVariants.{SqliteFailure}
use Rattle.sqlite.specs.declared.error.ErrorCode.TheVariants.{OutOfMemory}
use Rattle.kob_inbox.specs.declared.fault.InboxFault.{InboxFault}
use Rattle.kob_inbox.specs.declared.fault.InboxFault.TheVariants.{Memory, Store}

-- an event that was taken in: its id in lower-case hyphenated form, where it stood, what it said
pub record Intake : Type 0 where
  pub id : List ℕ
  pub topic : List ℕ
  pub partition : ℕ
  pub offset : ℕ
  pub key : Option (List ℕ)
  pub value : List ℕ

-- what an inbox is seen as: its events in the order of their intake, the first at place 1
abbrev pub Contents : Type 0
Contents = List Intake

-- the place of the next event
abbrev pub next_place : Contents → ℕ
next_place events = suc (length events)

-- no event id comes twice
abbrev pub IsOnce : Contents → Type 0
IsOnce = IsAscending (λ a b. bytes_eq b.id a.id ≡ false)

-- ---- what taking records in does

-- a record, with where it stands
pub record Arrival : Type 0 where
  pub place : Place
  pub offset : ℕ
  pub message : Record

-- a record as it is kept under the text of its event id
abbrev pub intake_of : List ℕ → Arrival → Intake
intake_of id a = record {
  id = id;
  topic = a.place.topic;
  partition = a.place.partition;
  offset = a.offset;
  key = a.message.key;
  value = a.message.value;
}

-- the event with this id was taken in
abbrev pub is_there : Contents → List ℕ → Bool
is_there events id = list_any (λ e. bytes_eq e.id id) events

-- the event comes last where its id is not there
abbrev pub with_intake : Contents → Intake → Contents
with_intake events e = if is_there events e.id then events else events ++ e ∷ []

-- the record is taken in, where it has an event id
abbrev pub with_record : Contents → Option (List ℕ) → Arrival → Contents
with_record events None a = events
with_record events (Some id) a = with_intake events (intake_of (id_text id) a)

-- the records are taken in, one after another
abbrev pub taken_in : Contents → List Arrival → Contents
taken_in events [] = events
taken_in events (a ∷ more) = taken_in (with_record events (event_id a.message) a) more

-- what becomes of a record with this event id
abbrev pub answer_to : Contents → Option (List ℕ) → TakeIn
answer_to events None = NoEventId
answer_to events (Some id) = if is_there events (id_text id) then Seen else Taken

-- the records that a partition holds at these offsets
abbrev pub arrivals : Place → List (ℕ × Record) → List Arrival
arrivals place records = map (λ x. record { place = place; offset = x.0; message = x.1 }) records

-- the event of a row, behind its place
abbrev pub placed_intake : InboxRow → ℕ × Intake
placed_intake row = (
  row.place,
  record {
    id = id_text row.id;
    topic = row.topic;
    partition = row.partition;
    offset = row.offset;
    key = row.key;
    value = row.value;
  },
)

-- a record that is there
abbrev pub arrival_from : Origin → Record → Arrival
arrival_from from message = record {
  place = record { topic = from.topic.now; partition = from.partition };
  offset = from.offset;
  message = message;
}

-- What becomes of an error of the database.

-- out of memory is distinguished from all else
abbrev pub fault_of : Error → InboxFault
fault_of (SqliteFailure OutOfMemory) = Memory alloc_error
fault_of _ = Store
