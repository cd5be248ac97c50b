-- Rows of an inbox whose event has an earlier row, and how they are printed.
use Rattle.std.specs.Prelude.{ℕ, ◌==◌, Bool, true, false, List, [], ◌∷◌, ◌++◌, Option, None, Some, codes, map, slice_get, take}
use Rattle.std.specs.List.{enumerate_from, find, flat_map}
use Rattle.kob_delivery_check.specs.Order.{has_come, row_arrival}
use Rattle.kob_delivery_check.specs.PrintedOrder.{inbox_place, place_of}
use Rattle.kob_delivery_check.specs.PrintedPieces.{event_text}
use Rattle.kob_words.specs.Words.{counted}
use Rattle.kob_delivery_check.specs.declared.come.Arrival.{Arrival}
use Rattle.kob_delivery_check.specs.declared.row_doubles.DoubledRow.{DoubledRow}
use Rattle.kob_inbox.specs.declared.inbox_row.InboxRow.{InboxRow}
use Rattle.kob_outbox.specs.declared.event.OutboxEvent.{OutboxEvent}
use Rattle.kob_router.specs.Line.{one_more}

-- the first arrival of an event
abbrev pub first_of : ℕ → List Arrival → Option Arrival
first_of event arrivals = find (λ arrival. arrival.event == event) arrivals

-- by whether the event came before, and by its first arrival
abbrev pub double_by : Bool → Arrival → Option Arrival → List DoubledRow
double_by false arrival first = []
double_by true arrival None = []
double_by true arrival (Some first) =
    record { at = arrival.at; event = arrival.event; first = first.at } ∷ []

abbrev pub double_at : List Arrival → ℕ × Arrival → List DoubledRow
double_at arrivals (place, arrival) =
    double_by (has_come (take place arrivals) arrival.event) arrival
    (first_of arrival.event arrivals)

-- the arrivals whose event came before, each with the first one of its event
abbrev pub doubles_in : List Arrival → List DoubledRow
doubles_in arrivals = flat_map (λ x. double_at arrivals x) (enumerate_from 0 arrivals)

-- the rows of an inbox whose event has an earlier row
abbrev pub doubled_rows : List InboxRow → List DoubledRow
doubled_rows rows = doubles_in (map row_arrival rows)

-- How they are printed.

-- its place, and that of the first row
abbrev pub places_text : DoubledRow → List ℕ
places_text double =
    inbox_place double.at ++ codes ", first at" ++ counted double.first ++ codes "\n"

-- the line of a row, by the event at this place of those that were recorded
abbrev pub double_text : ℕ → DoubledRow → Option OutboxEvent → List ℕ
double_text place double None = []
double_text place double (Some event) =
    codes "doubled" ++ event_text (one_more place) event ++ places_text double

abbrev pub double_named : List OutboxEvent → DoubledRow → Option ℕ → List ℕ
double_named events double None = []
double_named events double (Some place) = double_text place double (slice_get events place)

-- the line of a row; nothing if its event is none of these
abbrev pub double_line : List OutboxEvent → DoubledRow → List ℕ
double_line events double = double_named events double (place_of double.event events)

-- a line for each row of the inbox whose event has an earlier row
abbrev pub double_lines : List OutboxEvent → List DoubledRow → List ℕ
double_lines events doubles = flat_map (double_line events) doubles
