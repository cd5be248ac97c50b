-- Plans: which may be run, how much they ask for, and the rows that their services record.
use Rattle.std.specs.Prelude.{◌≤◌, length, ℕ, ◌+◌, ◌*◌, vec_len, suc, ◌^◌, List, [], ◌∷◌, ◌++◌, Bool, not, ◌&&◌, if◌then◌else◌, is_none, nat_lt}
use Rattle.std.specs.List.{All, sum_by}
use Rattle.kob_pipeline.specs.Types.{Plan, id_text, stored_event, Service, ServiceStep}
use Rattle.kob_outbox.specs.Contents.{Event, first_bad, is_recorded}
use Rattle.kob_outbox.specs.declared.change.Change.{Change}
use Rattle.kob_outbox.specs.declared.event.OutboxEvent.{OutboxEvent}
use Rattle.kob_pipeline.specs.declared.plan.ServiceStep.TheVariants as steps

-- topics of services have 1 to 1,000 partitions; there are at most 100,000 opening bindings
abbrev pub IsRunnable : Plan → Type 0
IsRunnable plan =
    All (λ s. (1 ≤ s.target.partitions) × (s.target.partitions ≤ 1000)) plan.services.items
    × (length plan.settings.opening ≤ 100000)

-- how many workers there are
abbrev pub workers_planned : Plan → ℕ
workers_planned plan =
    length plan.services.items + length plan.consumers.items + length plan.administrators.items

-- how many entries a journal is to have room for: a tick makes two calls at most
abbrev pub entries_planned : Plan → ℕ
entries_planned plan =
    length plan.first
    + sum_by (λ s. vec_len s.requests) plan.administrators.items
    + 2 * sum_by (λ s. vec_len s.steps) plan.services.items
    + 2 * sum_by (λ s. vec_len s.steps) plan.consumers.items

-- an outbox accepts the event after these ids: its texts fit, its id is new, a number is left
abbrev pub is_accepted : List (List ℕ) → Change → OutboxEvent → Bool
is_accepted ids change event =
    is_none (first_bad change event)
    && (not (is_recorded ids (id_text event.id)) && nat_lt (suc (length ids)) (2 ^ 63))

-- the rows that these steps record after events with these ids, with their numbers
abbrev pub rows_from : List (List ℕ) → List ServiceStep → List Event
rows_from ids [] = []
rows_from ids (steps.Record change event ∷ more) =
    if is_accepted ids change event
    then stored_event (suc (length ids)) event ∷ rows_from (ids ++ id_text event.id ∷ []) more
    else rows_from ids more
rows_from ids (_ ∷ more) = rows_from ids more

-- the rows that a service records, swept ones included
abbrev pub rows_of_service : Service → List Event
rows_of_service service = rows_from [] service.steps.items
