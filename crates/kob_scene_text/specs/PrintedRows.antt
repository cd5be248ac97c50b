-- How the rows of an outbox and of an inbox are printed.
use Rattle.std.specs.Prelude.{ℕ, List, ◌++◌, codes, length, Option, Some, None, flat_map, string_bytes, Result, Ok, Err}
use Rattle.std.specs.Fmt.{decimal}
use Rattle.kob_inbox.specs.declared.inbox_row.InboxRow.{InboxRow}
use Rattle.kob_outbox.specs.declared.event.OutboxEvent.{OutboxEvent}
use Rattle.kob_outbox.specs.declared.event.Row.{Row}
use Rattle.kob_outbox.specs.Contents.{id_text}
use Rattle.kob_script.specs.Printed.{key_text, outcome_text}
use Rattle.kob_words.specs.Words.{bytes_text, counted, spaced}
use Rattle.kob_inbox.specs.declared.tick.Tick.{Tick as ConsumerTick}
use Rattle.kob_outbox.specs.declared.fault.RecordFault.{RecordFault}
use Rattle.kob_outbox.specs.declared.fault.RecordFault.TheVariants.{BadField, DuplicateId, Memory, Store}
use Rattle.kob_outbox.specs.declared.fields.Column.{Column}
use Rattle.kob_router.specs.declared.tick.Tick.{Tick as ServiceTick}
use Rattle.kob_inbox.specs.declared.tick.Tick.TheVariants as consumer_tick
use Rattle.kob_outbox.specs.declared.fields.Column.TheVariants as columns
use Rattle.kob_router.specs.declared.tick.StopReason.{StopReason}
use Rattle.kob_router.specs.declared.tick.StopReason.TheVariants as stop
use Rattle.kob_router.specs.declared.tick.Tick.TheVariants as service_tick

-- AGGREGATETYPE AGGREGATEID TYPE PAYLOAD
abbrev pub event_text : OutboxEvent → List ℕ
event_text event =
    spaced (string_bytes event.aggregate_type) ++ spaced (string_bytes event.aggregate_id)
    ++ spaced (string_bytes event.event_type) ++ spaced (string_bytes event.payload)

-- row SEQ ID and the event, on a line of its own
abbrev pub outbox_item : Row → List ℕ
outbox_item row =
    codes "row" ++ counted row.seq ++ spaced (id_text row.event.id) ++ event_text row.event
    ++ codes "\n"

-- the mark, and how many rows wait
abbrev pub waiting_text : ℕ → ℕ → ℕ → List ℕ
waiting_text number mark count =
    decimal number ++ codes " ok mark" ++ counted mark ++ codes " waiting" ++ counted count
    ++ codes "\n"

-- the same, and the rows that wait
abbrev pub outbox_text : ℕ → ℕ → List Row → List ℕ
outbox_text number mark rows =
    waiting_text number mark (length rows) ++ flat_map outbox_item rows

-- row PLACE ID TOPIC PARTITION OFFSET
abbrev pub intake_text : InboxRow → List ℕ
intake_text row =
    codes "row" ++ counted row.place ++ spaced (id_text row.id) ++ spaced row.topic
    ++ counted row.partition ++ counted row.offset

-- the same and KEY=VALUE or VALUE, on a line of its own
abbrev pub inbox_item : InboxRow → List ℕ
inbox_item row =
    intake_text row ++ codes " " ++ key_text row.key ++ bytes_text row.value ++ codes "\n"

-- how many rows were taken in, and these
abbrev pub inbox_text : ℕ → List InboxRow → List ℕ
inbox_text number rows =
    decimal number ++ codes " ok inbox " ++ decimal (length rows) ++ codes "\n"
    ++ flat_map inbox_item rows

-- the state of a business row, if there is one
abbrev pub state_text : ℕ → Option (List ℕ) → List ℕ
state_text number None = decimal number ++ codes " ok no-state\n"
state_text number (Some state) = decimal number ++ codes " ok state" ++ spaced state ++ codes "\n"

-- How the answers to steps are printed.

-- a text that no column takes, by the column's name in the tables
abbrev pub bad_field_text : Column → List ℕ
bad_field_text columns.Kind = codes " refused BadField kind"
bad_field_text columns.Id = codes " refused BadField key"
bad_field_text columns.State = codes " refused BadField state"
bad_field_text columns.AggregateType = codes " refused BadField aggregatetype"
bad_field_text columns.AggregateId = codes " refused BadField aggregateid"
bad_field_text columns.Type = codes " refused BadField type"
bad_field_text columns.Payload = codes " refused BadField payload"

-- a record that was made with its number, or why it was not
abbrev pub recorded_text : Result ℕ RecordFault → List ℕ
recorded_text (Ok seq) = codes " ok recorded " ++ decimal seq
recorded_text (Err (BadField column)) = bad_field_text column
recorded_text (Err DuplicateId) = codes " refused DuplicateId"
recorded_text (Err (Memory e)) = codes " stopped memory"
recorded_text (Err Store) = codes " stopped store"

-- a business row that was written alone, or why it was not
abbrev pub crashed_text : Result (Unit {0}) RecordFault → List ℕ
crashed_text (Ok done) = codes " crashed"
crashed_text (Err fault) = recorded_text (Err fault)

-- why a tick stopped
abbrev pub stop_text : StopReason → List ℕ
stop_text (stop.Rejected reply) = codes " stopped" ++ outcome_text reply
stop_text stop.BadTopic = codes " stopped bad-topic"
stop_text (stop.Memory e) = codes " stopped memory"
stop_text stop.Store = codes " stopped store"

-- what a tick of a service came to
abbrev pub service_tick_text : ServiceTick → List ℕ
service_tick_text (service_tick.Moved seq) = codes " moved " ++ decimal seq
service_tick_text service_tick.Idle = codes " idle"
service_tick_text service_tick.Repeat = codes " repeat"
service_tick_text (service_tick.Stopped reason) = stop_text reason

-- what a tick of a consumer came to
abbrev pub consumer_tick_text : ConsumerTick → List ℕ
consumer_tick_text (consumer_tick.Placed position) = codes " placed " ++ decimal position
consumer_tick_text (consumer_tick.Took count) = codes " took " ++ decimal count
consumer_tick_text consumer_tick.Committed = codes " committed"
consumer_tick_text consumer_tick.Idle = codes " idle"
consumer_tick_text consumer_tick.Repeat = codes " repeat"
consumer_tick_text (consumer_tick.Stopped reason) = stop_text reason

-- a line of output
abbrev pub numbered : ℕ → List ℕ → List ℕ
numbered number text = decimal number ++ text ++ codes "\n"
