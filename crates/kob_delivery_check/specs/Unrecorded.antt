-- Events whose service crashed before it recorded them.
use Rattle.std.specs.Prelude.{ℕ, Bool, List, ◌++◌, codes, is_none, string_bytes}
use Rattle.std.specs.List.{filter, flat_map}
use Rattle.kob_delivery_check.specs.Logs.{number_of}
use Rattle.kob_delivery_check.specs.PrintedOrder.{place_of}
use Rattle.kob_words.specs.Words.{spaced}
use Rattle.kob_outbox.specs.Contents.{id_text}
use Rattle.kob_outbox.specs.declared.event.OutboxEvent.{OutboxEvent}

-- none of these events has its id
abbrev pub has_new_id : List OutboxEvent → OutboxEvent → Bool
has_new_id events event = is_none (place_of (number_of event.id) events)

-- those that were not recorded afterwards
abbrev pub unrecorded_of : List OutboxEvent → List OutboxEvent → List OutboxEvent
unrecorded_of recorded unwritten = filter (λ event. has_new_id recorded event) unwritten

-- ID AGGREGATETYPE AGGREGATEID
abbrev pub aggregate_text : OutboxEvent → List ℕ
aggregate_text event =
    spaced (id_text event.id) ++ spaced (string_bytes event.aggregate_type)
    ++ spaced (string_bytes event.aggregate_id)

unfoldable pub no_row_text : List ℕ
no_row_text = codes ", no row: its service crashed before it recorded the event\n"

-- the line of such an event
abbrev pub unrecorded_line : OutboxEvent → List ℕ
unrecorded_line event = codes "lost" ++ aggregate_text event ++ no_row_text

-- a line for each
abbrev pub unrecorded_lines : List OutboxEvent → List ℕ
unrecorded_lines events = flat_map unrecorded_line events
