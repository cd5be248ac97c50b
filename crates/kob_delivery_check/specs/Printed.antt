-- How the answer to a check is printed: how many events are where, and the first that waits.
use Rattle.std.specs.Prelude.{ℕ, ◌+◌, List, [], ◌++◌, Option, None, Some, codes, length, slice_get}
use Rattle.std.specs.Fmt.{decimal}
use Rattle.std.specs.List.{count_by, position}
use Rattle.kob_delivery_check.specs.Doubles.{double_lines}
use Rattle.kob_delivery_check.specs.Fates.{is_delivered, is_lost, is_waiting}
use Rattle.kob_delivery_check.specs.PrintedOrder.{record_lines, row_lines}
use Rattle.kob_delivery_check.specs.PrintedPieces.{event_text, place_text}
use Rattle.kob_words.specs.Words.{counted}
use Rattle.kob_delivery_check.specs.PrintedRecords.{doubled_lines, lost_lines}
use Rattle.kob_delivery_check.specs.Unrecorded.{unrecorded_lines}
use Rattle.kob_delivery_check.specs.declared.cause.LostEvent.{LostEvent}
use Rattle.kob_delivery_check.specs.declared.printed.Found.{Found}
use Rattle.kob_delivery_check.specs.declared.fate.Fate.{Fate}
use Rattle.kob_delivery_check.specs.declared.fate.Fate.TheVariants.{Delivered, Ahead, Outbox, Lost}
use Rattle.kob_outbox.specs.declared.event.OutboxEvent.{OutboxEvent}
use Rattle.kob_router.specs.Line.{one_more}
use Rattle.kob_router.specs.declared.place.Place.{Place}
use Rattle.kob_shared.specs.declared.journal.Entry.{Entry}

-- where an event waits
abbrev pub where_text : List Place → Fate → List ℕ
where_text assignment (Ahead assigned offset) = place_text offset (slice_get assignment assigned)
where_text assignment Outbox = codes " in the outbox"
where_text assignment Delivered = []
where_text assignment Lost = []

-- the line of an event that waits
abbrev pub waits_line : List Place → ℕ → Option OutboxEvent → Option Fate → List ℕ
waits_line assignment place (Some event) (Some fate) =
    codes "waits" ++ event_text (one_more place) event ++ where_text assignment fate ++ codes "\n"
waits_line assignment place _ _ = []

abbrev pub waits_at : List OutboxEvent → List Fate → List Place → Option ℕ → List ℕ
waits_at events fates assignment None = []
waits_at events fates assignment (Some place) =
    waits_line assignment place (slice_get events place) (slice_get fates place)

-- the line of the first event that waits
abbrev pub waits_text : List OutboxEvent → List Fate → List Place → List ℕ
waits_text events fates assignment =
    waits_at events fates assignment (position is_waiting fates)

-- how many events are where; those that were never recorded are lost
abbrev pub head_text : ℕ → List Fate → List OutboxEvent → List ℕ
head_text number fates unrecorded =
    decimal number ++ codes " delivered" ++ counted (count_by is_delivered fates)
    ++ codes " of" ++ counted (length fates + length unrecorded)
    ++ codes " waiting" ++ counted (count_by is_waiting fates)
    ++ codes " lost" ++ counted (count_by is_lost fates + length unrecorded) ++ codes "\n"

-- a line for each event that is lost, and then for each that was never recorded
unfoldable pub missing_lines : List Entry → List Place → List OutboxEvent → List OutboxEvent
    → List LostEvent
    → List ℕ
missing_lines journal assignment events unrecorded losses =
    lost_lines journal assignment events losses ++ unrecorded_lines unrecorded

-- the whole answer to a check
abbrev pub check_text : ℕ → List Entry → List OutboxEvent → List OutboxEvent → Found → List Place
    → List ℕ
check_text number journal events unrecorded found assignment =
    head_text number found.fates.items unrecorded
    ++ waits_text events found.fates.items assignment
    ++ missing_lines journal assignment events unrecorded found.losses.items
    ++ doubled_lines journal assignment events found.repeats.items
    ++ double_lines events found.doubled_rows.items
    ++ row_lines events found.early_rows.items
    ++ record_lines events assignment found.early_records.items
