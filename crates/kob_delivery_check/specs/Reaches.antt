-- The records that a consumer has before it.
use Rattle.std.specs.Prelude.{ℕ, List, [], ◌∷◌, Option, None, Some, nat_le, if◌then◌else◌}
use Rattle.std.specs.List.{enumerate_from, flat_map}
use Rattle.kob_delivery_check.specs.declared.reach.Reach.{Reach}
use Rattle.kob_delivery_check.specs.declared.reach.Stored.{Stored}

-- a record of an event at this offset or after it
abbrev pub stored_at : ℕ → ℕ → ℕ × Option ℕ → List Stored
stored_at assigned from (offset, None) = []
stored_at assigned from (offset, Some event) =
    if nat_le from offset
    then record { event = event; assigned = assigned; offset = offset } ∷ [] else []

-- the records of events from an offset on
abbrev pub records_from : ℕ → ℕ → List (Option ℕ) → List Stored
records_from assigned from events =
    flat_map (λ x. stored_at assigned from x) (enumerate_from 0 events)

abbrev pub records_within : ℕ × Reach → List Stored
records_within (assigned, reach) = records_from assigned reach.from reach.log.events

-- the records of events that a consumer has before it, by its partitions
abbrev pub records_ahead : List Reach → List Stored
records_ahead reaches = flat_map (λ x. records_within x) (enumerate_from 0 reaches)
