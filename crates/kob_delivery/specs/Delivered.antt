-- What the laws of delivery say: of a partition, of what a consumer takes in, of rows, and of an inbox.
use Rattle.std.specs.Prelude.{ℕ, List, [], ◌∷◌, ◌++◌, Bool, ◌&&◌, if◌then◌else◌, ◌≡◌, false, filter, map, Contains, Option, None, Some, option_map, bytes_eq, nat_eq, slice_get, ◌⊎◌, ◌<◌}
use Rattle.std.specs.List.{fold, list_any, AllByRecursion, filter_map, range_with_len, IsDistinct}
use Rattle.kob_delivery.specs.Types.{id_text, Record, Dispatching, same_place, Place, Arrival, Body, Produce, Entry, Move, events_of, Done}
use Rattle.kob_outbox.specs.Contents.{Event, Contents as Outbox, empty}
use Rattle.kob_router.specs.Route.{event_id}
use Rattle.kob_router.specs.declared.dispatch.Dispatch.{Dispatch}
use Rattle.kob_rights.specs.declared.on_partitions.Produce.{Produce as ProduceRequest}
use Rattle.kob_inbox.specs.Contents.{Contents as Inbox, Intake}

-- the first list begins the second
abbrev pub IsPrefixOf : {A : Type 0} → List A → List A → Type 0
IsPrefixOf {A} xs ys = (rest : List A) × (xs ++ rest ≡ ys)

-- the element goes to the end where nothing in the list is the same
abbrev pub with_new : {A : Type 0} → (A → A → Bool) → List A → A → List A
with_new same xs x = if list_any (same x) xs then xs else xs ++ x ∷ []

-- each element at its first place
abbrev pub firsts : {A : Type 0} → (A → A → Bool) → List A → List A
firsts same xs = fold (with_new same) [] xs

-- the rows that the moves of a service recorded, swept ones included, with their numbers from 1 on
abbrev pub rows_of : List Move → List Event
rows_of moves = events_of empty moves

abbrev pub ids_of : List Event → List (List ℕ)
ids_of rows = map (λ row. row.id) rows

-- the event id that a record carries, in the form in which outbox and inbox keep it
abbrev pub carried_id : Record → Option (List ℕ)
carried_id message = option_map id_text (event_id message)

-- what is made of a row goes to this place
abbrev pub goes_to : Place → Option Dispatch → Bool
goes_to place None = false
goes_to place (Some dispatch) = same_place place dispatch.place

-- the rows that are routed to a place
abbrev pub routed_to : Dispatching → Place → List Event → List Event
routed_to route place rows = filter (λ row. goes_to place (route row)) rows

-- the record is what the route makes of one of the rows, for this place
abbrev pub IsRecordOf : Dispatching → Place → List Event → Record → Type 0
IsRecordOf route place rows message =
    (row : Event) × Contains rows row
    × (route row ≡ Some (record { place = place; message = message }))

-- the event ids of the records, each at its first offset, begin those of the rows that are routed
-- there, and each record is what the route makes of a row
pub record IsDelivered (route : Dispatching) (place : Place) (rows : List Event)
    (records : List Record) : Type 0 where
  pub ids :
      IsPrefixOf (firsts bytes_eq (filter_map carried_id records))
      (ids_of (routed_to route place rows))
  pub each : AllByRecursion (IsRecordOf route place rows) records

-- what arrived from a place
abbrev pub from_place : Place → List Arrival → List Arrival
from_place place arrived = filter (λ a. same_place a.place place) arrived

-- the offsets that arrived from the place are all those below some bound, each for the first time
-- after all lower ones, and with the records that stand there
pub record IsTakenInOrder (place : Place) (records : List Record) (arrived : List Arrival)
    : Type 0 where
  pub bound : ℕ
  pub offsets :
      firsts nat_eq (map (λ (a : Arrival). a.offset) (from_place place arrived))
      ≡ range_with_len 0 bound
  pub contents :
      AllByRecursion (λ (a : Arrival). slice_get records a.offset ≡ Some a.message)
      (from_place place arrived)

-- the entry is a PRODUCE of the worker, done: of the row's record, to the place of its route
pub record Sends (route : Dispatching) (worker : ℕ) (row : Event) (e : Entry) : Type 0 where
  pub dispatch : Dispatch
  pub asked : ProduceRequest
  pub body : Body
  pub own : e.worker ≡ worker
  pub routed : route row ≡ Some dispatch
  pub request : e.event.request ≡ Produce asked
  pub topic : asked.topic ≡ dispatch.place.topic
  pub partition : asked.partition ≡ dispatch.place.partition
  pub content : asked.batch.records ≡ dispatch.message ∷ []
  pub done : e.reply ≡ Done body

-- the row is in the outbox past the mark
pub record IsWaiting (outbox : Outbox) (row : Event) : Type 0 where
  pub past : outbox.mark < row.seq
  pub there : Contains outbox.events row

-- the row was sent, and the broker said that this is done
pub record IsSent (route : Dispatching) (worker : ℕ) (journal : List Entry) (row : Event)
    : Type 0 where
  pub entry : Entry
  pub there : Contains journal entry
  pub sends : Sends route worker row entry

-- the one or the other
abbrev pub IsWaitingOrSent :
    Dispatching → ℕ → List Entry → Outbox → Event → Type 0
IsWaitingOrSent route worker journal outbox row =
    IsWaiting outbox row ⊎ IsSent route worker journal row

-- the row is of the aggregate with this type and id
abbrev pub is_of_aggregate : List ℕ → List ℕ → Event → Bool
is_of_aggregate kind id row = bytes_eq row.aggregate_type kind && bytes_eq row.aggregate_id id

-- the rows of an aggregate, in the order in which they were recorded
abbrev pub rows_of_aggregate : List Event → List ℕ → List ℕ → List Event
rows_of_aggregate rows kind id = filter (is_of_aggregate kind id) rows

-- what an inbox has of the rows of an aggregate, in the order in which it was taken in
abbrev pub taken_of_aggregate : Inbox → List Event → List ℕ → List ℕ → Inbox
taken_of_aggregate inbox rows kind id =
    filter (λ i. list_any (bytes_eq i.id) (ids_of (rows_of_aggregate rows kind id))) inbox

abbrev pub taken_ids : Inbox → List (List ℕ)
taken_ids inbox = map (λ (i : Intake). i.id) inbox

-- what was taken in has the key and the value of one of the rows, that with its id
pub record IsCopy (rows : List Event) (i : Intake) : Type 0 where
  pub row : Event
  pub there : Contains rows row
  pub id : i.id ≡ row.id
  pub key : i.key ≡ Some row.aggregate_id
  pub value : i.value ≡ row.payload

-- what an inbox has of an aggregate: the ids of its rows in the order in which they were recorded,
-- from the first row on and none left out, each once, and with its row's key and value
pub record ReachesInOrder (rows : List Event) (inbox : Inbox) (kind id : List ℕ) : Type 0 where
  pub begins :
      IsPrefixOf (taken_ids (taken_of_aggregate inbox rows kind id))
      (ids_of (rows_of_aggregate rows kind id))
  pub once : IsDistinct bytes_eq (taken_ids (taken_of_aggregate inbox rows kind id))
  pub copies :
      AllByRecursion (IsCopy (rows_of_aggregate rows kind id))
      (taken_of_aggregate inbox rows kind id)
