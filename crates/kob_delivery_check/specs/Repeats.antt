-- Records that repeat an event.
use Rattle.std.specs.Prelude.{ℕ, ◌==◌, Bool, false, List, [], ◌∷◌, Option, None, Some, if◌then◌else◌, slice_get, take}
use Rattle.std.specs.List.{enumerate_from, flat_map, list_any}
use Rattle.kob_delivery_check.specs.Reaches.{records_from}
use Rattle.kob_delivery_check.specs.declared.reach.Reach.{Reach}
use Rattle.kob_delivery_check.specs.declared.reach.Stored.{Stored}
use Rattle.kob_router.specs.Run.{same_place}
use Rattle.kob_router.specs.declared.place.Place.{Place}

abbrev pub has_before : List Place → ℕ → Option Place → Bool
has_before assignment assigned None = false
has_before assignment assigned (Some place) =
    list_any (λ other. same_place other place) (take assigned assignment)

-- the partition is assigned before
abbrev pub is_repeated : List Place → ℕ → Bool
is_repeated assignment assigned = has_before assignment assigned (slice_get assignment assigned)

-- all records of events in a partition, deleted ones included, where it is not assigned before
abbrev pub records_once : List Place → ℕ × Reach → List Stored
records_once assignment (assigned, reach) =
    if is_repeated assignment assigned then [] else records_from assigned 0 reach.log.events

-- the records of events in all partitions of an assignment
abbrev pub records_of : List Place → List Reach → List Stored
records_of assignment reaches =
    flat_map (λ x. records_once assignment x) (enumerate_from 0 reaches)

abbrev pub repeat_by : Bool → Stored → List Stored
repeat_by is_repeat stored = if is_repeat then stored ∷ [] else []

-- a record at this place of all, if an earlier one has its event
abbrev pub repeat_at : List Stored → ℕ × Stored → List Stored
repeat_at records (place, stored) =
    repeat_by (list_any (λ other. other.event == stored.event) (take place records)) stored

-- the records whose event has an earlier record
abbrev pub repeats_of : List Stored → List Stored
repeats_of records = flat_map (λ x. repeat_at records x) (enumerate_from 0 records)
