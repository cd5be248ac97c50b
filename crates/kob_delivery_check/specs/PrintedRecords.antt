-- How lost events and doubled records are printed, with the entries of the journal to blame.
use Rattle.std.specs.Prelude.{ℕ, ◌==◌, List, [], ◌++◌, Option, None, Some, codes, if◌then◌else◌, slice_get}
use Rattle.std.specs.List.{enumerate_from, flat_map}
use Rattle.kob_delivery_check.specs.Logs.{number_of}
use Rattle.kob_delivery_check.specs.PrintedPieces.{event_text, place_text}
use Rattle.kob_words.specs.Words.{counted, spaced}
use Rattle.kob_delivery_check.specs.Sent.{put_at, sent_at}
use Rattle.kob_delivery_check.specs.declared.cause.Cause.{Cause}
use Rattle.kob_delivery_check.specs.declared.cause.Cause.TheVariants.{Unknown, Unsent, Unread, OutOfReach, KeptOut}
use Rattle.kob_delivery_check.specs.declared.cause.LostEvent.{LostEvent}
use Rattle.kob_delivery_check.specs.declared.reach.Stored.{Stored}
use Rattle.kob_names.specs.declared.batch.Idem.{Idem}
use Rattle.kob_outbox.specs.declared.event.OutboxEvent.{OutboxEvent}
use Rattle.kob_rights.specs.declared.reply.Body.TheVariants as bodies
use Rattle.kob_rights.specs.declared.reply.Reply.{Reply}
use Rattle.kob_rights.specs.declared.reply.Reply.TheVariants.{Done}
use Rattle.kob_rights.specs.declared.request.Request.{Request}
use Rattle.kob_rights.specs.declared.request.Request.TheVariants.{Produce, DeleteRecords, OffsetCommit, DeleteTopics}
use Rattle.kob_router.specs.Line.{one_more}
use Rattle.kob_router.specs.declared.place.Place.{Place}
use Rattle.kob_shared.specs.declared.journal.Entry.{Entry}

-- committed OFFSET for group GROUP
abbrev pub committed_text : ℕ → List ℕ → List ℕ
committed_text offset group = codes " committed" ++ counted offset ++ codes " for group" ++ spaced group

abbrev pub deleted_text : ℕ → List ℕ
deleted_text start = codes " deleted the records before" ++ counted start

abbrev pub deletion_text : Reply → List ℕ
deletion_text (Done (bodies.Start start)) = deleted_text start
deletion_text reply = []

-- what a request did that put a record out of reach
abbrev pub deed_text : Request → Reply → List ℕ
deed_text (OffsetCommit asked) reply = committed_text asked.offset asked.group
deed_text (DeleteRecords asked) reply = deletion_text reply
deed_text (DeleteTopics asked) reply = codes " deleted the topic"
deed_text request reply = []

-- entry ENTRY: PRINCIPAL and what it did
abbrev pub blamed_text : ℕ → Option Entry → List ℕ
blamed_text at None = []
blamed_text at (Some entry) =
    codes ", entry" ++ counted at ++ codes ":" ++ spaced entry.event.principal
    ++ deed_text entry.event.request entry.reply

abbrev pub by_text : List Entry → Option ℕ → List ℕ
by_text journal None = []
by_text journal (Some at) = blamed_text at (slice_get journal at)

-- the partition that a PRODUCE names
abbrev pub unread_text : Request → List ℕ
unread_text (Produce asked) =
    codes " in" ++ spaced asked.topic ++ counted asked.partition ++ codes ", not read"
unread_text request = []

abbrev pub unread_at : Option Entry → List ℕ
unread_at None = []
unread_at (Some entry) = unread_text entry.event.request

abbrev pub cause_text : List Entry → List Place → Cause → List ℕ
cause_text journal assignment Unknown = []
cause_text journal assignment Unsent = codes ", no entry sent it"
cause_text journal assignment (Unread sent) = unread_at (slice_get journal sent)
cause_text journal assignment (OutOfReach assigned offset by) =
    place_text offset (slice_get assignment assigned) ++ by_text journal by
cause_text journal assignment (KeptOut row) = codes ", the inbox has its id at" ++ counted row

-- the line of an event that is lost
abbrev pub lost_line : List Entry → List Place → LostEvent → Option OutboxEvent → List ℕ
lost_line journal assignment loss None = []
lost_line journal assignment loss (Some event) =
    codes "lost" ++ event_text (one_more loss.event) event
    ++ cause_text journal assignment loss.cause ++ codes "\n"

abbrev pub lost_item : List Entry → List Place → List OutboxEvent → LostEvent → List ℕ
lost_item journal assignment events loss =
    lost_line journal assignment loss (slice_get events loss.event)

-- a line for each event that is lost
abbrev pub lost_lines : List Entry → List Place → List OutboxEvent → List LostEvent → List ℕ
lost_lines journal assignment events losses =
    flat_map (λ loss. lost_item journal assignment events loss) losses

abbrev pub producer_text : Option Idem → List ℕ
producer_text None = codes " without a producer id"
producer_text (Some idem) = codes " by producer" ++ counted idem.id

abbrev pub producer_of : Request → List ℕ
producer_of (Produce asked) = producer_text asked.batch.idem
producer_of request = []

-- ENTRY by producer ID, after these words
abbrev pub sender_text : List ℕ → ℕ → Option Entry → List ℕ
sender_text label at None = []
sender_text label at (Some entry) = label ++ counted at ++ producer_of entry.event.request

abbrev pub sender_at : List ℕ → List Entry → Option ℕ → List ℕ
sender_at label journal None = []
sender_at label journal (Some at) = sender_text label at (slice_get journal at)

-- the entry that put a record where it is, and the first that sent its event
abbrev pub senders_text : List Entry → List Place → Stored → List ℕ
senders_text journal assignment stored =
    sender_at (codes ", entry") journal (put_at assignment stored journal)
    ++ sender_at (codes ", first entry") journal (sent_at stored.event journal)

-- the line of an event's record that has an earlier one
abbrev pub doubled_line : List Entry → List Place → ℕ → OutboxEvent → Stored → List ℕ
doubled_line journal assignment place event stored =
    codes "doubled" ++ event_text (one_more place) event
    ++ place_text stored.offset (slice_get assignment stored.assigned)
    ++ senders_text journal assignment stored ++ codes "\n"

-- the lines of an event's records that have an earlier one
abbrev pub doubled_by : List Entry → List Place → ℕ → OutboxEvent → Stored → List ℕ
doubled_by journal assignment place event stored =
    if stored.event == number_of event.id
    then doubled_line journal assignment place event stored else []

abbrev pub doubled_item : List Entry → List Place → List Stored → ℕ × OutboxEvent → List ℕ
doubled_item journal assignment repeats (place, event) =
    flat_map (doubled_by journal assignment place event) repeats

-- a line for each record of an event that has an earlier one, by the rows of the events
abbrev pub doubled_lines : List Entry → List Place → List OutboxEvent → List Stored → List ℕ
doubled_lines journal assignment events repeats =
    flat_map (λ x. doubled_item journal assignment repeats x) (enumerate_from 0 events)
