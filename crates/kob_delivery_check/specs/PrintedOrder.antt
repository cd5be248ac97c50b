-- How events that are out of order are printed.
use Rattle.std.specs.Prelude.{ℕ, ◌==◌, List, [], ◌++◌, Option, None, Some, codes, slice_get}
use Rattle.std.specs.List.{flat_map, position}
use Rattle.kob_delivery_check.specs.Logs.{number_of}
use Rattle.kob_delivery_check.specs.PrintedPieces.{event_text, place_text}
use Rattle.kob_words.specs.Words.{counted, spaced}
use Rattle.kob_delivery_check.specs.declared.order.Early.{Early}
use Rattle.kob_delivery_check.specs.declared.record_order.EarlyRecord.{EarlyRecord}
use Rattle.kob_outbox.specs.Contents.{id_text}
use Rattle.kob_outbox.specs.declared.event.OutboxEvent.{OutboxEvent}
use Rattle.kob_router.specs.Line.{one_more}
use Rattle.kob_router.specs.declared.place.Place.{Place}

-- the place of the event with this id
abbrev pub place_of : ℕ → List OutboxEvent → Option ℕ
place_of id events = position (λ event. number_of event.id == id) events

abbrev pub early_event : ℕ → Option OutboxEvent → List ℕ
early_event place None = []
early_event place (Some event) = codes "misordered" ++ event_text (one_more place) event

abbrev pub early_named : List OutboxEvent → Option ℕ → List ℕ
early_named events None = []
early_named events (Some place) = early_event place (slice_get events place)

abbrev pub before_event : ℕ → Option OutboxEvent → List ℕ
before_event place None = []
before_event place (Some event) =
    codes ", before" ++ spaced (id_text event.id) ++ codes " row" ++ counted (one_more place) ++ codes "\n"

abbrev pub before_named : List OutboxEvent → Option ℕ → List ℕ
before_named events None = []
before_named events (Some place) = before_event place (slice_get events place)

-- the line of an event, where it came, and the one that was recorded before it
abbrev pub early_line : List OutboxEvent → List ℕ → Early → List ℕ
early_line events came early =
    early_named events (place_of early.event events) ++ came
    ++ before_named events (place_of early.before events)

abbrev pub inbox_place : ℕ → List ℕ
inbox_place at = codes " in the inbox at" ++ counted at

-- of a row of the inbox
abbrev pub row_line : List OutboxEvent → Early → List ℕ
row_line events early = early_line events (inbox_place early.at) early

-- of a record
abbrev pub record_line : List OutboxEvent → List Place → EarlyRecord → List ℕ
record_line events assignment found =
    early_line events (place_text found.early.at (slice_get assignment found.assigned)) found.early

-- a line for each row of the inbox that is out of order
abbrev pub row_lines : List OutboxEvent → List Early → List ℕ
row_lines events early = flat_map (row_line events) early

-- a line for each record that is out of order in its partition
abbrev pub record_lines : List OutboxEvent → List Place → List EarlyRecord → List ℕ
record_lines events assignment found = flat_map (record_line events assignment) found
