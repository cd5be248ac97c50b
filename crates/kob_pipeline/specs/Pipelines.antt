-- What a pipeline leaves of a plan, how it may fail, and how the laws speak of what is left.
use Rattle.std.specs.Prelude.{◌≡◌, ℕ, ◌+◌, List, length, Some, option_map, slice_get, [], map}
use Rattle.std.specs.List.{AllZip, AllByRecursion}
use Rattle.kob_pipeline.specs.Types.{State, Retained, BeginsWith, EachIsAnswered, IsKept, IsTornAt, events_in, notes_of, told_in, NamesOneOf, Noted, WorkerEnd, Plan, Settings, Record, records_of, stored_row, dispatch_of, Place, taken_in, placed_intake, taken_of, InboxEnd, OutboxEnd, ConsumerPlan, Service, state_of, Event}
use Rattle.kob_shared.specs.Journals.{IsLegal, opened_by}
use Rattle.kob_shared.specs.declared.work.Done.{Done}
use Rattle.kob_pipeline.specs.declared.end.PipelineEnd.{PipelineEnd}
use Rattle.kob_pipeline.specs.Steps.{HasEnded, Planned, planned_workers, IsConsumption}
use Rattle.kob_pipeline.specs.declared.fault.PipelineFault.{PipelineFault}
use Rattle.kob_pipeline.specs.declared.fault.PipelineFault.TheVariants.{TooManyWorkers, JournalFull, Stopped, Torn}
use Rattle.kob_inbox.specs.declared.inbox_row.InboxRow.{InboxRow}
use Rattle.kob_delivery.specs.View.{view_after}
use Rattle.kob_delivery.specs.Delivered.{IsTakenInOrder, IsWaitingOrSent}
use Rattle.kob_pipeline.specs.Plans.{rows_of_service}
use Rattle.kob_pipeline.specs.declared.end.WorkerEnd.TheVariants.{Inbox, Outbox}
use Rattle.kob_outbox.specs.Contents as outboxes
use Rattle.kob_inbox.specs.Contents as inboxes

-- where the k-th consumer stands among the workers, k from 0; the k-th service has place k
abbrev pub consumer_place : Plan → ℕ → ℕ
consumer_place plan k = length plan.services.items + k

-- the number of the k-th service and of the k-th consumer, after worker 0
abbrev pub service_number : Plan → ℕ → ℕ
service_number plan k = k + 1

abbrev pub consumer_number : Plan → ℕ → ℕ
consumer_number plan k = consumer_place plan k + 1

-- the notes of all workers, worker 0's first
abbrev pub notes_in : PipelineEnd → List Noted
notes_in end = notes_of end.first end.done.items

-- the worker at this place noted and left this
abbrev pub HasDone : PipelineEnd → ℕ → Noted → WorkerEnd → Type 0
HasDone end place noted left =
    slice_get end.done.items place ≡ Some (record { notes = noted; end = left })

-- the worker at this place left this
abbrev pub HasLeft : PipelineEnd → ℕ → WorkerEnd → Type 0
HasLeft end place left =
    option_map (λ (one : Done WorkerEnd). one.end) (slice_get end.done.items place) ≡ Some left

-- The journal is legal from this opening on and begins with the first events, which are all that
-- worker 0 asked. Each worker's notes are its entries, with a receipt for each event, at rising
-- places, and nobody else has an entry. Each worker did its steps, in the order of their numbers.
pub record IsEnd (opening : State Retained) (first : List Event) (planned : List Planned)
    (end : PipelineEnd) : Type 0 where
  pub legal : IsLegal opening end.journal (state_of end.broker)
  pub begins : BeginsWith first end.journal
  pub asked : end.first.events ≡ first
  pub answered : EachIsAnswered (events_in (notes_in end)) (told_in (notes_in end))
  pub kept : IsKept (events_in (notes_in end)) (told_in (notes_in end)) end.journal
  pub done : AllZip (λ w d. HasEnded w d.notes d.end) planned end.done.items

-- so it is of a plan: services, then consumers, then administrators
abbrev pub IsPipeline : Plan → PipelineEnd → Type 0
IsPipeline plan end = IsEnd (opened_by plan.settings) plan.first (planned_workers plan) end

-- the journal that is given back is torn there, and all notes have a receipt for each event
abbrev pub IsTornOnlyWhere : Settings → PipelineFault → Type 0
IsTornOnlyWhere opening (Torn worker place ran) =
    let notes = notes_of ran.first ran.done.items in
    EachIsAnswered (events_in notes) (told_in notes)
    × IsTornAt opening (events_in notes) (told_in notes) ran.found worker place
IsTornOnlyWhere opening fault = Unit {0}

-- a fault that comes after the counts were found to fit
abbrev pub IsLater : PipelineFault → Type 0
IsLater TooManyWorkers = ⊥
IsLater JournalFull = ⊥
IsLater fault = Unit {0}

-- a worker that is named is one of so many, and not worker 0, whose events fit
abbrev pub NamesWorkerWithin : ℕ → PipelineFault → Type 0
NamesWorkerWithin count (Stopped stop) = NamesOneOf count stop
NamesWorkerWithin count fault = Unit {0}

-- all records that a partition has accepted by the end of the journal, each at its offset
abbrev pub records_at : Plan → PipelineEnd → Place → List Record
records_at plan end place = records_of ((view_after plan.settings end.journal).log place)

-- an outbox with the rows and the mark that are left
abbrev pub outbox_in : OutboxEnd → outboxes.Contents
outbox_in left = record outboxes.empty { events = map stored_row left.rows.items; mark = left.mark }

-- the events of an inbox that is left, in the order of their intake
abbrev pub inbox_in : InboxEnd → inboxes.Contents
inbox_in left = map (λ (row : InboxRow). (placed_intake row).1) left.rows.items

-- what the consumer took in of a place is in order of its records; all of it makes its inbox
pub record TakesInOrder (plan : Plan) (end : PipelineEnd) (k : ℕ) (consumer : ConsumerPlan)
    (place : Place) : Type 0 where
  pub noted : Noted
  pub left : InboxEnd
  pub done : HasDone end (consumer_place plan k) noted (Inbox left)
  pub run : IsConsumption consumer noted left
  pub order : IsTakenInOrder place (records_at plan end place) (taken_of run.work.moves)
  pub inbox : inbox_in left ≡ taken_in [] (taken_of run.work.moves)

-- a row recorded stands past the mark in the outbox that is left, or a PRODUCE of it was done
abbrev pub IsNoneLost : Plan → PipelineEnd → Type 0
IsNoneLost plan end = (k : ℕ) (service : Service) (left : OutboxEnd)
    → slice_get plan.services.items k ≡ Some service
    → HasLeft end k (Outbox left)
    → AllByRecursion (IsWaitingOrSent (dispatch_of service.target) (service_number plan k)
    end.journal (outbox_in left)) (rows_of_service service)
