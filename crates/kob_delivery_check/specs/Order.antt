-- Which events came before an event of their aggregate that was recorded before them. Events of an
-- aggregate are to come in the order in which their service recorded them.
use Rattle.std.specs.Prelude.{ℕ, ◌==◌, ◌&&◌, Bool, true, false, List, [], ◌∷◌, Option, None, Some, bytes_eq, if◌then◌else◌, length, map, option_map, reverse, string_bytes, take}
use Rattle.std.specs.List.{enumerate_from, filter, find, flat_map, list_any}
use Rattle.kob_delivery_check.specs.Logs.{number_of}
use Rattle.kob_delivery_check.specs.Repeats.{records_once}
use Rattle.kob_delivery_check.specs.declared.come.Arrival.{Arrival}
use Rattle.kob_delivery_check.specs.declared.order.Early.{Early}
use Rattle.kob_delivery_check.specs.declared.record_order.EarlyRecord.{EarlyRecord}
use Rattle.kob_delivery_check.specs.declared.reach.Reach.{Reach}
use Rattle.kob_delivery_check.specs.declared.reach.Stored.{Stored}
use Rattle.kob_inbox.specs.declared.inbox_row.InboxRow.{InboxRow}
use Rattle.kob_outbox.specs.declared.event.OutboxEvent.{OutboxEvent}
use Rattle.kob_router.specs.declared.place.Place.{Place}

-- the event is of the aggregate with this type and id
abbrev pub is_of_aggregate : List ℕ → List ℕ → OutboxEvent → Bool
is_of_aggregate kind id event =
    bytes_eq (string_bytes event.aggregate_type) kind
    && bytes_eq (string_bytes event.aggregate_id) id

-- the id of the last event of an aggregate; events are given the last one first
abbrev pub last_of : List ℕ → List ℕ → List OutboxEvent → Option ℕ
last_of kind id events =
    option_map (λ event. number_of event.id) (find (is_of_aggregate kind id) events)

-- the id of the event of the same aggregate that was recorded before the event with this id; events
-- are given the last one first
abbrev pub id_before : ℕ → List OutboxEvent → Option ℕ
id_before id [] = None
id_before id (event ∷ before) =
    if number_of event.id == id
    then last_of (string_bytes event.aggregate_type) (string_bytes event.aggregate_id) before
    else id_before id before

-- the event with this id is among those that came
abbrev pub has_come : List Arrival → ℕ → Bool
has_come arrivals id = list_any (λ arrival. arrival.event == id) arrivals

-- none was recorded before, or it is among those that came
abbrev pub is_next : List Arrival → Option ℕ → Bool
is_next earlier None = true
is_next earlier (Some before) = has_come earlier before

-- by whether it is so, and by the one that was recorded before
abbrev pub early_by : Bool → Arrival → Option ℕ → List Early
early_by true arrival before = []
early_by false arrival None = []
early_by false arrival (Some before) =
    record { at = arrival.at; event = arrival.event; before = before } ∷ []

-- by those that came before it, and by the one that was recorded before it
abbrev pub early_after : List Arrival → Arrival → Option ℕ → List Early
early_after earlier arrival before = early_by (is_next earlier before) arrival before

abbrev pub early_at : List OutboxEvent → List Arrival → ℕ × Arrival → List Early
early_at events arrivals (place, arrival) =
    early_after (take place arrivals) arrival (id_before arrival.event (reverse events))

-- those of the arrivals, in their order, that came before the event of their aggregate that was
-- recorded before them, whether that one came later or never
abbrev pub early_in : List OutboxEvent → List Arrival → List Early
early_in events arrivals =
    flat_map (λ x. early_at events arrivals x) (enumerate_from 0 arrivals)

-- the rows of an inbox
abbrev pub row_arrival : InboxRow → Arrival
row_arrival row = record { at = row.place; event = number_of row.id }

-- the rows of an inbox that are out of order
abbrev pub early_rows : List OutboxEvent → List InboxRow → List Early
early_rows events rows = early_in events (map row_arrival rows)

-- the records of a partition
abbrev pub record_arrival : Stored → Arrival
record_arrival stored = record { at = stored.offset; event = stored.event }

-- the events that came, whenever it was
abbrev pub events_come : List OutboxEvent → List Arrival → List OutboxEvent
events_come events arrivals = filter (λ event. has_come arrivals (number_of event.id)) events

-- how many of these events are among the rows of an inbox
abbrev pub count_taken : List OutboxEvent → List InboxRow → ℕ
count_taken events rows = length (events_come events (map row_arrival rows))

abbrev pub early_on : ℕ → List OutboxEvent → List Arrival → List EarlyRecord
early_on assigned events arrivals =
    map (λ early. record { assigned = assigned; early = early })
    (early_in (events_come events arrivals) arrivals)

abbrev pub early_within : List Place → List OutboxEvent → ℕ × Reach → List EarlyRecord
early_within assignment events (assigned, reach) =
    early_on assigned events (map record_arrival (records_once assignment (assigned, reach)))

-- the records that are in their partition before an event of their aggregate that was recorded
-- before them and has a record there
abbrev pub early_records : List Place → List OutboxEvent → List Reach → List EarlyRecord
early_records assignment events reaches =
    flat_map (λ x. early_within assignment events x) (enumerate_from 0 reaches)
