-- How an event and its place are printed.
use Rattle.std.specs.Prelude.{ℕ, List, [], ◌++◌, Option, None, Some, codes, string_bytes}
use Rattle.kob_outbox.specs.Contents.{id_text}
use Rattle.kob_outbox.specs.declared.event.OutboxEvent.{OutboxEvent}
use Rattle.kob_router.specs.declared.place.Place.{Place}
use Rattle.kob_words.specs.Words.{counted, spaced}

-- ID AGGREGATETYPE AGGREGATEID row ROW; rows are counted from 1
abbrev pub event_text : ℕ → OutboxEvent → List ℕ
event_text row event =
    spaced (id_text event.id) ++ spaced (string_bytes event.aggregate_type)
    ++ spaced (string_bytes event.aggregate_id) ++ codes " row" ++ counted row

-- in TOPIC PARTITION at OFFSET
abbrev pub place_text : ℕ → Option Place → List ℕ
place_text offset None = []
place_text offset (Some place) =
    codes " in" ++ spaced place.topic ++ counted place.partition ++ codes " at" ++ counted offset
