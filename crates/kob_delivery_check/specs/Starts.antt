-- Where a consumer that begins at the end commits before it asks for its group's commit.
use Rattle.std.specs.Prelude.{ℕ, List, [], ◌∷◌, Option, None, Some, length, option_map}
use Rattle.std.specs.Option.{option_or}
use Rattle.kob_delivery_check.specs.Journaled.{log_by, own_position}
use Rattle.kob_delivery_check.specs.Logs.{Log}
use Rattle.kob_inbox.specs.declared.fetcher.Fetcher.{Fetcher}
use Rattle.kob_rights.specs.declared.on_groups.OffsetCommit.{OffsetCommit}
use Rattle.kob_router.specs.declared.place.Place.{Place}
use Rattle.kob_shared.specs.declared.journal.Entry.{Entry}

abbrev pub end_unless : Option ℕ → ℕ → Option ℕ
end_unless (Some committed) end = None
end_unless None end = Some end

-- the end of the partition, where the consumer knows no position and its group has no commit
abbrev pub start_by : Option ℕ → Log → Option ℕ
start_by (Some position) log = None
start_by None log = end_unless log.committed (length log.events)

abbrev pub commit_on : List ℕ → Place → ℕ → OffsetCommit
commit_on group place offset =
    record { group = group; topic = place.topic; partition = place.partition; offset = offset }

abbrev pub start_on : List Entry → Fetcher → Place → Option OffsetCommit
start_on journal consumer place =
    option_map (commit_on consumer.subscription.group place)
    (start_by (own_position consumer place) (log_by consumer.subscription.group place journal))

-- of the first of these partitions that it has still to begin on
abbrev pub start_due : List Entry → Fetcher → List Place → Option OffsetCommit
start_due journal consumer [] = None
start_due journal consumer (place ∷ places) =
    option_or (start_on journal consumer place) (start_due journal consumer places)
