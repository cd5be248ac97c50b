-- Where an event is.
use Rattle.std.specs.Prelude.{ℕ, ◌==◌, ◌&&◌, Bool, true, false, not, List, map, Option, None, Some, if◌then◌else◌}
use Rattle.std.specs.List.{find, list_any}
use Rattle.kob_delivery_check.specs.Altered.{is_altered}
use Rattle.kob_delivery_check.specs.Logs.{number_of}
use Rattle.kob_inbox.specs.declared.inbox_row.InboxRow.{InboxRow}
use Rattle.kob_outbox.specs.declared.event.OutboxEvent.{OutboxEvent}
use Rattle.kob_outbox.specs.declared.event.Row.{Row}
use Rattle.kob_delivery_check.specs.declared.fate.Fate.{Fate}
use Rattle.kob_delivery_check.specs.declared.fate.Fate.TheVariants.{Delivered, Ahead, Outbox, Lost}
use Rattle.kob_delivery_check.specs.declared.reach.Stored.{Stored}

-- by its first record before the consumer, and by whether it is in the outbox after the mark
abbrev pub fate_ahead : Option Stored → Bool → Fate
fate_ahead (Some stored) waits = Ahead stored.assigned stored.offset
fate_ahead None true = Outbox
fate_ahead None false = Lost

-- by whether it is in the inbox, by the records before the consumer, and by whether it is in the
-- outbox after the mark
abbrev pub fate_by : Bool → List Stored → Bool → ℕ → Fate
fate_by is_taken ahead waits event =
    if is_taken then Delivered
    else fate_ahead (find (λ stored. stored.event == event) ahead) waits

-- a row of the inbox has this id, with the key and the value that its event was recorded with
abbrev pub is_in_inbox : List OutboxEvent → List InboxRow → ℕ → Bool
is_in_inbox events rows id =
    list_any (λ row. number_of row.id == id && not (is_altered events row)) rows

-- a row of the outbox has this id
abbrev pub is_in_outbox : List Row → ℕ → Bool
is_in_outbox rows id = list_any (λ row. number_of row.event.id == id) rows

-- where the event with this id is, which is one of these
abbrev pub fate_of : List OutboxEvent → List InboxRow → List Stored → List Row → List ℕ → Fate
fate_of events taken ahead waiting id =
    fate_by (is_in_inbox events taken (number_of id)) ahead (is_in_outbox waiting (number_of id))
    (number_of id)

-- where each of these events is
abbrev pub fates_by : List InboxRow → List Stored → List Row → List OutboxEvent → List Fate
fates_by taken ahead waiting events =
    map (λ event. fate_of events taken ahead waiting event.id) events

abbrev pub is_delivered : Fate → Bool
is_delivered Delivered = true
is_delivered fate = false

abbrev pub is_waiting : Fate → Bool
is_waiting (Ahead assigned offset) = true
is_waiting Outbox = true
is_waiting fate = false

abbrev pub is_lost : Fate → Bool
is_lost Lost = true
is_lost fate = false
