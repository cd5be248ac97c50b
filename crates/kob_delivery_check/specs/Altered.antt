-- Which rows of an inbox have another key or value than their event was recorded with.
use Rattle.std.specs.Prelude.{ℕ, ◌==◌, ◌&&◌, Bool, false, not, List, Option, None, Some, bytes_eq, option_map, reverse, string_bytes}
use Rattle.std.specs.List.{find}
use Rattle.kob_delivery_check.specs.Logs.{number_of}
use Rattle.kob_inbox.specs.declared.inbox_row.InboxRow.{InboxRow}
use Rattle.kob_outbox.specs.declared.event.OutboxEvent.{OutboxEvent}

abbrev pub is_key : List ℕ → Option (List ℕ) → Bool
is_key id None = false
is_key id (Some key) = bytes_eq key id

-- a router sends the aggregate's id as the key, and the payload as the value
abbrev pub is_copy : OutboxEvent → InboxRow → Bool
is_copy event row =
    is_key (string_bytes event.aggregate_id) row.key && bytes_eq row.value (string_bytes event.payload)

-- by the recorded event with the row's id, if there is one
abbrev pub is_altered_from : Option OutboxEvent → InboxRow → Bool
is_altered_from None row = false
is_altered_from (Some event) row = not (is_copy event row)

-- the event with this id; events are given the last one first
abbrev pub event_with : ℕ → List OutboxEvent → Option OutboxEvent
event_with id events = find (λ event. number_of event.id == id) events

abbrev pub is_altered : List OutboxEvent → InboxRow → Bool
is_altered events row = is_altered_from (event_with (number_of row.id) (reverse events)) row

-- the place of the first row that is not as its event was recorded
abbrev pub altered_row : List OutboxEvent → List InboxRow → Option ℕ
altered_row events rows = option_map (λ row. row.place) (find (is_altered events) rows)
