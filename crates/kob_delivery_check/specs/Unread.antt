-- The partitions that a service has sent to and a consumer does not read.
use Rattle.std.specs.Prelude.{ℕ, ◌==◌, ◌&&◌, Bool, List, [], ◌++◌, ◌∷◌, if◌then◌else◌}
use Rattle.std.specs.List.{fold, list_any}
use Rattle.kob_names.specs.Same.{same_text}
use Rattle.kob_rights.specs.declared.on_partitions.Produce.{Produce as ProduceRequest}
use Rattle.kob_rights.specs.declared.reply.Reply.{Reply}
use Rattle.kob_rights.specs.declared.reply.Reply.TheVariants.{Done}
use Rattle.kob_rights.specs.declared.request.Request.{Request}
use Rattle.kob_rights.specs.declared.request.Request.TheVariants.{Produce}
use Rattle.kob_router.specs.declared.place.Place.{Place}
use Rattle.kob_shared.specs.declared.journal.Entry.{Entry}

-- the partition is one of these
abbrev pub has_partition : List Place → List ℕ → ℕ → Bool
has_partition places topic partition =
    list_any (λ place. place.partition == partition && same_text place.topic topic) places

-- with the partition of a PRODUCE that was done, if it is neither read nor among them
abbrev pub with_produce : List Place → List Place → ProduceRequest → List Place
with_produce assignment found asked =
    if has_partition assignment asked.topic asked.partition then found
    else (if has_partition found asked.topic asked.partition then found
    else found ++ record { topic = asked.topic; partition = asked.partition } ∷ [])

abbrev pub with_request : List Place → List Place → Request → Reply → List Place
with_request assignment found (Produce asked) (Done body) = with_produce assignment found asked
with_request assignment found request reply = found

abbrev pub with_entry : ℕ → List Place → List Place → Entry → List Place
with_entry worker assignment found entry =
    if entry.worker == worker
    then with_request assignment found entry.event.request entry.reply else found

-- the partitions to which this worker has sent, in the order of the first sending, that are not
-- among those of the assignment
abbrev pub unread_of : ℕ → List Place → List Entry → List Place
unread_of worker assignment journal =
    fold (λ found entry. with_entry worker assignment found entry) [] journal
