-- Which entries of a journal send an event.
use Rattle.std.specs.Prelude.{ℕ, ◌-◌, ◌==◌, ◌&&◌, Bool, false, List, Option, None, Some, nat_le, slice_get}
use Rattle.std.specs.List.{list_any, position}
use Rattle.kob_delivery_check.specs.Logs.{event_number, is_on}
use Rattle.kob_delivery_check.specs.declared.reach.Stored.{Stored}
use Rattle.kob_names.specs.declared.record.Record.{Record}
use Rattle.kob_rights.specs.declared.reply.Body.TheVariants as bodies
use Rattle.kob_rights.specs.declared.reply.Reply.{Reply}
use Rattle.kob_rights.specs.declared.reply.Reply.TheVariants.{Done}
use Rattle.kob_rights.specs.declared.request.Request.{Request}
use Rattle.kob_rights.specs.declared.request.Request.TheVariants.{Produce}
use Rattle.kob_router.specs.declared.place.Place.{Place}
use Rattle.kob_shared.specs.declared.journal.Entry.{Entry}

abbrev pub is_number : ℕ → Option ℕ → Bool
is_number event (Some number) = number == event
is_number event None = false

-- the record carries this event's id
abbrev pub has_event : ℕ → Record → Bool
has_event event message = is_number event (event_number message)

-- a PRODUCE that was done, of a batch with a record of the event
abbrev pub sends : ℕ → Request → Reply → Bool
sends event (Produce asked) (Done (bodies.Offset offset)) =
    list_any (has_event event) asked.batch.records
sends event request reply = false

-- the first entry that sends the event
abbrev pub sent_at : ℕ → List Entry → Option ℕ
sent_at event journal = position (λ entry. sends event entry.event.request entry.reply) journal

abbrev pub is_event_of : ℕ → Option Record → Bool
is_event_of event None = false
is_event_of event (Some message) = has_event event message

-- a PRODUCE that was done, to this partition, whose record at the offset is of the event
abbrev pub puts : Place → Stored → Request → Reply → Bool
puts place stored (Produce asked) (Done (bodies.Offset first)) =
    is_on place asked.topic asked.partition && (nat_le first stored.offset
    && is_event_of stored.event (slice_get asked.batch.records (stored.offset - first)))
puts place stored request reply = false

abbrev pub put_on : Stored → List Entry → Option Place → Option ℕ
put_on stored journal None = None
put_on stored journal (Some place) =
    position (λ entry. puts place stored entry.event.request entry.reply) journal

-- the first entry that put this record of a partition of the assignment where it is
abbrev pub put_at : List Place → Stored → List Entry → Option ℕ
put_at assignment stored journal = put_on stored journal (slice_get assignment stored.assigned)
