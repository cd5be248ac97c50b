-- What a route makes of a row, in the terms of Debezium's outbox event router.
use Rattle.std.specs.declared.alloc.AllocError.{AllocError}
use Rattle.std.specs.Prelude.{alloc_error}
use Rattle.std.specs.Prelude.{ℕ, List, [], ◌∷◌, Bool, true, not, ◌&&◌, ◌||◌, ◌==◌, nat_eq, codes, length, nat_le, if◌then◌else◌, Option, Some, None, option_map, option_and_then, map, ◌≡◌, ◌⊎◌, Result, Ok, Err}
use Rattle.std.specs.List.{starts_with, slice_split, find}
use Rattle.bstr.specs.Find.{matches}
use Rattle.bstr.specs.Text.{replaced_at}
use Rattle.kob_names.specs.Same.{same_text}
use Rattle.kob_router.specs.declared.placement.PlacedColumn.{PlacedColumn}
use Rattle.kob_router.specs.declared.placement.Placed.{Placed}
use Rattle.std.specs.Option.{is_some}
use Rattle.kob_names.specs.TextRules.{topic_fault}
use Rattle.kob_names.specs.declared.record.Header.{Header}
use Rattle.kob_names.specs.declared.record.Record.{Record}
use Rattle.kob_outbox.specs.Contents.{Event}
use Rattle.kob_router.specs.declared.settings.RouteBy.{RouteBy}
use Rattle.kob_router.specs.declared.settings.RouteBy.TheVariants.{AggregateType, AggregateId}
use Rattle.kob_router.specs.declared.settings.Routing.{Routing}
use Rattle.kob_router.specs.declared.routed.Routed.{Routed}
use Rattle.uuid.specs.Text.{parsed}
use Rattle.kob_router.specs.declared.placement.PlacedColumn.TheVariants as placed

-- ---- the text that a topic's name is made of, with places for the value by which a row is routed

-- the words that stand for the value
abbrev pub routed_by_value : List ℕ
routed_by_value = codes "${routedByValue}"

-- each `$` begins these words
abbrev pub each_dollar_begins : List ℕ → Bool
each_dollar_begins [] = true
each_dollar_begins (byte ∷ bytes) =
    (not (byte == 36) || starts_with nat_eq (byte ∷ bytes) routed_by_value)
    && each_dollar_begins bytes

-- the text is not empty, and each of its `$` begins the words that stand for the value
abbrev pub is_template : List ℕ → Bool
is_template template = not (length template == 0) && each_dollar_begins template

-- the text with the value in place of these words, wherever they stand
abbrev pub with_routed_value : List ℕ → List ℕ → List ℕ
with_routed_value template value =
    replaced_at template (length routed_by_value) value 0 (matches template routed_by_value 0)

-- ---- which columns of a row are sent as headers: Debezium's `table.fields.additional.placement`

-- the column with this name
abbrev pub column_named : List ℕ → Option PlacedColumn
column_named name =
    if same_text name (codes "aggregatetype") then Some placed.AggregateType
    else (if same_text name (codes "aggregateid") then Some placed.AggregateId
    else (if same_text name (codes "type") then Some placed.EventType
    else None))

-- a header's name has 1 to 255 bytes
abbrev pub is_alias : List ℕ → Bool
is_alias alias = nat_le 1 (length alias) && nat_le (length alias) 255

-- the column with this name as a header of that name, where the word between them is `header`
abbrev pub placed_as : List ℕ → List ℕ → List ℕ → Option Placed
placed_as column word alias =
    if same_text word (codes "header") && is_alias alias
    then option_map (λ named. record { column = named; header = alias }) (column_named column)
    else None

-- an entry's parts: a column, the word `header`, and the header's name, by default the column's
abbrev pub entry_of_parts : List (List ℕ) → Option Placed
entry_of_parts (column ∷ word ∷ []) = placed_as column word column
entry_of_parts (column ∷ word ∷ alias ∷ []) = placed_as column word alias
entry_of_parts _ = None

-- an entry, with colons between its parts
abbrev pub entry_of : List ℕ → Option Placed
entry_of text = entry_of_parts (slice_split (λ byte. byte == 58) text)

-- all entries, where each of the texts is one
abbrev pub each_entry : List (List ℕ) → Option (List Placed)
each_entry [] = Some []
each_entry (text ∷ texts) =
    option_and_then
    (λ (entry : Placed). option_map (λ entries. entry ∷ entries) (each_entry texts))
    (entry_of text)

-- no text, or up to 16 entries with commas between them
abbrev pub entries_of : List ℕ → Option (List Placed)
entries_of text =
    if length text == 0 then Some []
    else (if nat_le (length (slice_split (λ byte. byte == 44) text)) 16
    then each_entry (slice_split (λ byte. byte == 44) text)
    else None)

-- ---- the topic and the record of a row

-- the value of the column by which rows are routed
abbrev pub routed_value : RouteBy → Event → List ℕ
routed_value AggregateType event = event.aggregate_type
routed_value AggregateId event = event.aggregate_id

-- the value of a column that is sent as a header
abbrev pub placed_value : PlacedColumn → Event → List ℕ
placed_value placed.AggregateType event = event.aggregate_type
placed_value placed.AggregateId event = event.aggregate_id
placed_value placed.EventType event = event.event_type

-- the topic: the template, filled with the value by which rows are routed
abbrev pub topic_of : Routing → Event → List ℕ
topic_of routing event = with_routed_value routing.template (routed_value routing.by event)

-- the key: the aggregate's id
abbrev pub key_of : Event → List ℕ
key_of event = event.aggregate_id

-- the header that carries the event's id
abbrev pub id_header : Event → Header
id_header event = record { name = codes "id"; value = event.id }

-- a column as a header
abbrev pub placed_header : Event → Placed → Header
placed_header event entry = record { name = entry.header; value = placed_value entry.column event }

-- the event's id first, then the placed columns in their order
abbrev pub headers_of : Routing → Event → List Header
headers_of routing event = id_header event ∷ map (placed_header event) routing.placement

-- the record that is sent: the aggregate's id as key, the payload as value
abbrev pub message_of : Routing → Event → Record
message_of routing event =
    record { key = Some (key_of event); value = event.payload; headers = headers_of routing event }

-- a text that is the name of a topic
abbrev pub topic_named : List ℕ → Option (List ℕ)
topic_named text = if is_some (topic_fault text) then None else Some text

-- the topic and the record of a row, where the topic's name can be one
abbrev pub routed_row : Routing → Event → Option Routed
routed_row routing event =
    if is_some (topic_fault (topic_of routing event)) then None
    else Some (record { topic = topic_of routing event; message = message_of routing event })

-- the header by which Debezium's outbox event router carries an event's id
abbrev pub is_id : Header → Bool
is_id header = same_text header.name (codes "id")

-- the bytes of the UUID that the first header named `id` spells, in any of the forms of a UUID
abbrev pub event_id : Record → Option (List ℕ)
event_id sent = option_and_then (λ (header : Header). parsed header.value) (find is_id sent.headers)

-- what there is, or this fault where there is nothing; out of memory may take the place of both
abbrev pub OkIfSome : {A E : Type 0} → Option A → E → (AllocError → E) → Result A E → Type 0
OkIfSome found nothing memory (Ok value) = found ≡ Some value
OkIfSome found nothing memory (Err fault) = ((found ≡ None) × (fault ≡ nothing)) ⊎ (fault ≡ memory alloc_error)
