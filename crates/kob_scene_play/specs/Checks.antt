-- Where each event of a service is, on its way to a consumer.
use Rattle.std.specs.List.{enumerate_from}
use Rattle.std.specs.Prelude.{◌≡◌, ℕ, List, Some, map, slice_get}
use Rattle.kob_delivery_check.specs.Causes.{losses_by}
use Rattle.kob_delivery_check.specs.Doubles.{doubled_rows}
use Rattle.kob_delivery_check.specs.Fates.{fates_by}
use Rattle.kob_delivery_check.specs.Journaled.{reach_of}
use Rattle.kob_delivery_check.specs.Order.{early_records, early_rows}
use Rattle.kob_delivery_check.specs.Printed.{check_text}
use Rattle.kob_delivery_check.specs.Reaches.{records_ahead}
use Rattle.kob_delivery_check.specs.Repeats.{records_of, repeats_of}
use Rattle.kob_delivery_check.specs.Unrecorded.{unrecorded_of}
use Rattle.kob_delivery_check.specs.declared.cause.LostEvent.{LostEvent}
use Rattle.kob_delivery_check.specs.declared.fate.Fate.{Fate}
use Rattle.kob_delivery_check.specs.declared.order.Early.{Early}
use Rattle.kob_delivery_check.specs.declared.record_order.EarlyRecord.{EarlyRecord}
use Rattle.kob_delivery_check.specs.declared.printed.Found.{Found}
use Rattle.kob_delivery_check.specs.declared.reach.Reach.{Reach}
use Rattle.kob_delivery_check.specs.declared.reach.Stored.{Stored}
use Rattle.kob_delivery_check.specs.declared.row_doubles.DoubledRow.{DoubledRow}
use Rattle.kob_inbox.specs.Contents.{placed_intake}
use Rattle.kob_inbox.specs.declared.inbox_row.InboxRow.{InboxRow}
use Rattle.kob_outbox.specs.Contents.{first_after, stored_row}
use Rattle.kob_outbox.specs.declared.event.OutboxEvent.{OutboxEvent}
use Rattle.kob_outbox.specs.declared.event.Row.{Row}
use Rattle.kob_router.specs.Line.{one_more}
use Rattle.kob_scene_play.specs.Steps.{Consumer, Service}
use Rattle.kob_scene_play.specs.declared.stage.PlayedConsumer.{PlayedConsumer}
use Rattle.kob_scene_play.specs.declared.stage.PlayedService.{PlayedService}
use Rattle.kob_scene_play.specs.declared.stage.Stage.{Stage}
use Rattle.kob_scene_text.specs.Scenes.{is_latest}
use Rattle.kob_shared.specs.declared.journal.Entry.{Entry}

-- the consumer's partitions, with what they hold by its broker's journal
abbrev pub reaches_of : List Entry → Consumer → List Reach
reaches_of journal consumer =
    map (reach_of (is_latest consumer.start) journal consumer.fetcher)
    consumer.fetcher.subscription.assignment

-- the records of events that the consumer has before it
abbrev pub ahead_of : List Entry → Consumer → List Stored
ahead_of journal consumer = records_ahead (reaches_of journal consumer)

-- the records of events in its partitions that have an earlier record of the same event
abbrev pub repeats_in : List Entry → Consumer → List Stored
repeats_in journal consumer =
    repeats_of (records_of consumer.fetcher.subscription.assignment (reaches_of journal consumer))

-- where each event that the service recorded is: in the consumer's inbox, before the consumer, in
-- the outbox after the mark, or in none of these
abbrev pub AreFates : Service → Consumer → List Entry → List Fate → Type 0
AreFates service consumer journal fates =
    (taken : List InboxRow) × (waiting : List Row)
    × (map placed_intake taken ≡ enumerate_from 1 consumer.inbox)
    × (map stored_row waiting
    ≡ first_after service.outbox.mark 4294967295 service.outbox.events)
    × (fates ≡ fates_by taken (ahead_of journal consumer) waiting service.recorded)

-- the events that are lost by these fates, each with its cause, by the rows of the consumer's inbox and
-- by the journal
abbrev pub AreLosses : Service → Consumer → List Entry → List Fate → List LostEvent → Type 0
AreLosses service consumer journal fates losses =
    (taken : List InboxRow)
    × (map placed_intake taken ≡ enumerate_from 1 consumer.inbox)
    × (losses ≡ losses_by consumer.fetcher.subscription taken journal service.recorded fates)

-- the rows of its inbox whose event has an earlier row
abbrev pub AreDoubled : Consumer → List DoubledRow → Type 0
AreDoubled consumer doubled =
    (taken : List InboxRow)
    × (map placed_intake taken ≡ enumerate_from 1 consumer.inbox)
    × (doubled ≡ doubled_rows taken)

-- the events whose business row the service wrote, and that it never recorded
abbrev pub unrecorded_by : Service → List OutboxEvent
unrecorded_by service = unrecorded_of service.recorded service.unwritten

-- the rows of its inbox that are out of order
abbrev pub AreEarly : Service → Consumer → List Early → Type 0
AreEarly service consumer early =
    (taken : List InboxRow)
    × (map placed_intake taken ≡ enumerate_from 1 consumer.inbox)
    × (early ≡ early_rows service.recorded taken)

-- the records in its partitions that are out of order
abbrev pub early_in_topics : Service → Consumer → List Entry → List EarlyRecord
early_in_topics service consumer journal =
    early_records consumer.fetcher.subscription.assignment service.recorded
    (reaches_of journal consumer)

-- where each event is, why each lost one is lost, which records and rows repeat one, and what is out
-- of order
abbrev pub IsFound : Service → Consumer → List Entry → Found → Type 0
IsFound service consumer journal found =
    AreFates service consumer journal found.fates.items
    × AreLosses service consumer journal found.fates.items found.losses.items
    × (found.repeats.items ≡ repeats_in journal consumer)
    × AreDoubled consumer found.doubled_rows.items
    × AreEarly service consumer found.early_rows.items
    × (found.early_records.items ≡ early_in_topics service consumer journal)

abbrev pub IsCheck : Service → Consumer → List Entry → ℕ → List ℕ → Type 0
IsCheck service consumer journal told text =
    (found : Found)
    × IsFound service consumer journal found
    × (text ≡ check_text (one_more told) journal service.recorded (unrecorded_by service) found
    consumer.fetcher.subscription.assignment)

-- the answer about the service and the consumer at these places
abbrev pub IsChecked : ℕ → ℕ → Stage → ℕ → List ℕ → Type 0
IsChecked service consumer stage told text =
    (sender : PlayedService) × (taker : PlayedConsumer)
    × (slice_get stage.services.items service ≡ Some sender)
    × (slice_get stage.consumers.items consumer ≡ Some taker)
    × IsCheck sender.service taker.consumer stage.recorded.journal told text
