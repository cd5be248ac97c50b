-- Why an event is lost to a consumer.
use Rattle.std.specs.Prelude.{ℕ, ◌==◌, ◌-◌, ◌+◌, ◌&&◌, ◌||◌, Bool, true, false, not, List, [], ◌∷◌, Option, None, Some, if◌then◌else◌, length, max, nat_le, nat_lt, slice_get, take, unwrap_or}
use Rattle.std.specs.List.{enumerate_from, find, flat_map, position}
use Rattle.std.specs.Option.{option_or}
use Rattle.kob_delivery_check.specs.Fates.{is_lost}
use Rattle.kob_delivery_check.specs.Journaled.{log_by}
use Rattle.kob_delivery_check.specs.Logs.{Log, is_on, number_of}
use Rattle.kob_delivery_check.specs.Sent.{is_number, sent_at}
use Rattle.kob_delivery_check.specs.declared.cause.Cause.{Cause}
use Rattle.kob_delivery_check.specs.declared.cause.Cause.TheVariants.{Unknown, Unsent, Unread, OutOfReach, KeptOut}
use Rattle.kob_delivery_check.specs.declared.cause.LostEvent.{LostEvent}
use Rattle.kob_delivery_check.specs.declared.fate.Fate.{Fate}
use Rattle.kob_inbox.specs.declared.fetcher.Subscription.{Subscription}
use Rattle.kob_inbox.specs.declared.inbox_row.InboxRow.{InboxRow}
use Rattle.kob_names.specs.Same.{same_text}
use Rattle.kob_outbox.specs.declared.event.OutboxEvent.{OutboxEvent}
use Rattle.kob_rights.specs.declared.reply.Reply.{Reply}
use Rattle.kob_rights.specs.declared.reply.Reply.TheVariants.{Done}
use Rattle.kob_rights.specs.declared.request.Request.{Request}
use Rattle.kob_rights.specs.declared.request.Request.TheVariants.{Produce, DeleteTopics}
use Rattle.kob_router.specs.declared.place.Place.{Place}
use Rattle.kob_shared.specs.declared.journal.Entry.{Entry}

-- the partition that a PRODUCE names, by its place in the assignment
abbrev pub assigned_to : List Place → Request → Option ℕ
assigned_to assignment (Produce asked) =
    position (λ place. is_on place asked.topic asked.partition) assignment
assigned_to assignment request = None

-- a consumer that begins by the group's commit is not given the record at this offset
abbrev pub is_behind : ℕ → Log → Bool
is_behind offset log = nat_lt offset (max (unwrap_or log.committed 0) log.start)

-- a DELETE_TOPICS of the partition's topic that was done
abbrev pub deletes_topic : Place → Request → Reply → Bool
deletes_topic place (DeleteTopics asked) (Done body) = same_text asked.name place.topic
deletes_topic place request reply = false

-- an entry that deletes the topic, or puts the record at this offset out of the group's reach
abbrev pub is_obstacle : List ℕ → Place → ℕ → List Entry → ℕ → Entry → Bool
is_obstacle group place offset journal at entry =
    deletes_topic place entry.event.request entry.reply
    || (is_behind offset (log_by group place (take (at + 1) journal))
    && not (is_behind offset (log_by group place (take at journal))))

abbrev pub noted : ℕ → Bool → List ℕ
noted at true = at ∷ []
noted at false = []

abbrev pub obstacle_at : List ℕ → Place → ℕ → List Entry → ℕ × Entry → List ℕ
obstacle_at group place offset journal (at, entry) =
    noted at (is_obstacle group place offset journal at entry)

-- all such entries, by their places in the journal
abbrev pub obstacles : List ℕ → Place → ℕ → List Entry → List ℕ
obstacles group place offset journal =
    flat_map (λ x. obstacle_at group place offset journal x) (enumerate_from 0 journal)

-- the first of them from the sending on; else the last before it, as a commit that was too far
-- already when the record was sent
abbrev pub obstacle_of : ℕ → List ℕ → Option ℕ
obstacle_of sent found =
    option_or (find (λ at. nat_le sent at) found) (slice_get found (length found - 1))

abbrev pub cause_at : Subscription → Place → List Entry → ℕ → ℕ → Option ℕ → Cause
cause_at reader place journal sent assigned None = Unknown
cause_at reader place journal sent assigned (Some offset) =
    OutOfReach assigned offset (obstacle_of sent (obstacles reader.group place offset journal))

-- by the partition: the record's offset is where the event stood in it when it was sent
abbrev pub cause_in : Subscription → List Entry → ℕ → ℕ → ℕ → Option Place → Cause
cause_in reader journal event sent assigned None = Unknown
cause_in reader journal event sent assigned (Some place) =
    cause_at reader place journal sent assigned
    (position (is_number event) (log_by reader.group place (take (sent + 1) journal)).events)

abbrev pub cause_to : Subscription → List Entry → ℕ → ℕ → Option ℕ → Cause
cause_to reader journal event sent None = Unread sent
cause_to reader journal event sent (Some assigned) =
    cause_in reader journal event sent assigned (slice_get reader.assignment assigned)

abbrev pub cause_by : Subscription → List Entry → ℕ → ℕ → Option Entry → Cause
cause_by reader journal event sent None = Unknown
cause_by reader journal event sent (Some entry) =
    cause_to reader journal event sent (assigned_to reader.assignment entry.event.request)

abbrev pub cause_sent : Subscription → List Entry → ℕ → Option ℕ → Cause
cause_sent reader journal event None = Unsent
cause_sent reader journal event (Some sent) =
    cause_by reader journal event sent (slice_get journal sent)

-- why the event is lost to a consumer with this subscription, by the journal of its broker
abbrev pub cause_of : Subscription → List Entry → ℕ → Cause
cause_of reader journal event = cause_sent reader journal event (sent_at event journal)

-- a row of the inbox has the event's id and is not the event's, or else the journal says why
abbrev pub cause_beside : Subscription → List Entry → ℕ → Option InboxRow → Cause
cause_beside reader journal event (Some row) = KeptOut row.place
cause_beside reader journal event None = cause_of reader journal event

-- the first row of the inbox with this id
abbrev pub row_with : ℕ → List InboxRow → Option InboxRow
row_with id rows = find (λ row. number_of row.id == id) rows

abbrev pub loss_by : Subscription → List InboxRow → List Entry → ℕ → Option OutboxEvent
    → List LostEvent
loss_by reader rows journal place None = []
loss_by reader rows journal place (Some event) =
    record {
      event = place;
      cause = cause_beside reader journal (number_of event.id) (row_with (number_of event.id) rows);
    } ∷ []

abbrev pub loss_at : Subscription → List InboxRow → List Entry → List OutboxEvent → ℕ × Fate
    → List LostEvent
loss_at reader rows journal events (place, fate) =
    if is_lost fate then loss_by reader rows journal place (slice_get events place) else []

-- the events that are lost to a consumer whose inbox has these rows, each with its cause
abbrev pub losses_by : Subscription → List InboxRow → List Entry → List OutboxEvent → List Fate
    → List LostEvent
losses_by reader rows journal events fates =
    flat_map (λ x. loss_at reader rows journal events x) (enumerate_from 0 fates)
