-- What the steps of services and consumers do, and what all workers leave.
use Rattle.std.specs.Prelude.{◌≡◌, ℕ, List, [], ◌∷◌, ◌++◌, ◌⊎◌, map, length}
use Rattle.std.specs.List.{All, AllByRecursion, enumerate_from}
use Rattle.kob_pipeline.specs.Types.{Served, AreServed, AtDesk, Noted, stored_row, Dispatching, dispatch_of, OutboxEnd, Loss, Service, ServiceStep, placed_intake, IsConsumerRun, Subscription, InboxEnd, ConsumerPlan, IsAnswered, events_of_script, WorkerEnd, Plan, IsRecordable, IsRouterRun}
use Rattle.kob_pipeline.specs.Served.{AreNoted, IsEventOf, served_by_notes, AreServedByLoss}
use Rattle.kob_router.specs.Run.Move.{Recorded, Restarted as RouterRestarted, Swept}
use Rattle.kob_router.specs.Tick.{IsReport as IsRouterReport, IsOfTick, IsOneTick}
use Rattle.kob_router.specs.declared.tick.Tick.{Tick as RouterTick}
use Rattle.kob_router.specs.declared.tick.Tick.TheVariants.{Stopped as RouterStopped}
use Rattle.kob_inbox.specs.Run.Move.{Restarted as ConsumerRestarted}
use Rattle.kob_inbox.specs.Tick.{IsReport as IsConsumerReport, unmade_by}
use Rattle.kob_inbox.specs.declared.tick.Tick.{Tick as ConsumerTick}
use Rattle.kob_inbox.specs.declared.tick.Tick.TheVariants.{Stopped as ConsumerStopped}
use Rattle.kob_pipeline.specs.declared.plan.ConsumerStep.{ConsumerStep}
use Rattle.kob_shared.specs.declared.script.Script.{Script}
use Rattle.kob_shared.specs.declared.work.Done.{Done}
use Rattle.kob_pipeline.specs.declared.worker.Worker.{Worker}
use Rattle.kob_router.specs.Run as routers
use Rattle.kob_router.specs.declared.tick.StopReason.{StopReason}
use Rattle.kob_router.specs.declared.tick.StopReason.TheVariants as stops
use Rattle.kob_pipeline.specs.declared.plan.ServiceStep.TheVariants as service_steps
use Rattle.kob_inbox.specs.Run as consumers
use Rattle.kob_pipeline.specs.declared.plan.ConsumerStep.TheVariants as consumer_steps
use Rattle.kob_pipeline.specs.declared.end.WorkerEnd.TheVariants as ends
use Rattle.kob_pipeline.specs.declared.worker.Worker.TheVariants as workers

-- what one kind of step does: it leads from a state to another by these moves, and this was served
abbrev pub Doing : Type 0 → Type 0 → Type 0 → Type 1
Doing S T M = S → T → List M → List Served → S → Type 0

-- the same of steps one after another
abbrev pub Steps : {S T M : Type 0} → Doing S T M → S → List T → List M → List Served → S → Type 0
Steps does old [] moves served new = (moves ≡ []) × (served ≡ []) × (new ≡ old)
Steps {S} {T} {M} does old (step ∷ steps) moves served new =
    (mid : S) × (these : List M) × (those : List M) × (first : List Served) × (rest : List Served)
    × does old step these first mid
    × Steps does mid steps those rest new
    × (moves ≡ these ++ those)
    × (served ≡ first ++ rest)

-- a worker between two steps: its state, and its desk
pub record WithDesk (S : Type 0) : Type 0 where
  pub state : S
  pub desk : AtDesk

abbrev pub with_desk : {S : Type 0} → S → AtDesk → WithDesk S
with_desk state desk = record { state = state; desk = desk }

-- what is done leads from the one to the other, and what was served is noted
pub record Leads {S T M : Type 0} (does : Doing S T M) (old : WithDesk S) (what : T)
    (new : WithDesk S) : Type 0 where
  pub moves : List M
  pub served : List Served
  pub done : does old.state what moves served new.state
  pub noted : AreNoted served old.desk new.desk

-- a worker made all its steps, and noted all it was served, for its principal and its host
pub record HasWorked {S T M : Type 0} (does : Doing S T M) (start : S) (planned : List T)
    (principal host : List ℕ) (noted : Noted) : Type 0 where
  pub moves : List M
  pub state : S
  pub steps : Steps does start planned moves (served_by_notes noted.events noted.told) state
  pub own : All (IsEventOf principal host) noted.events

-- neither memory nor the database is the reason
abbrev pub GoesOnAfter : StopReason → Type 0
GoesOnAfter (stops.Memory refused) = ⊥
GoesOnAfter stops.Store = ⊥
GoesOnAfter reason = Unit {0}

-- neither memory nor the database stopped the tick
abbrev pub ServiceGoesOn : RouterTick → Type 0
ServiceGoesOn (RouterStopped reason) = GoesOnAfter reason
ServiceGoesOn tick = Unit {0}

-- the moves of a tick of the router: what it answers reports them, and its first call has the loss
pub record IsOfServiceTick (route : Dispatching) (loss : Loss) (moves : List routers.Move)
    (served : List Served) (new : routers.State) : Type 0 where
  pub own : AllByRecursion IsOfTick moves
  pub few : IsOneTick (routers.calls_of moves)
  pub tick : RouterTick
  pub goes_on : ServiceGoesOn tick
  pub answer : IsRouterReport route tick moves new 0 0
  pub lost : AreServedByLoss loss (routers.calls_of moves) served

-- the moves of one step: a record is made wherever it may be
abbrev pub IsOfServiceStep : Dispatching → routers.State → ServiceStep → List routers.Move → List Served → routers.State → Type 0
IsOfServiceStep route old (service_steps.Record change event) moves served new =
    ((moves ≡ Recorded change event ∷ [])
    ⊎ ((moves ≡ []) × (IsRecordable old.outbox change event → ⊥)))
    × (served ≡ [])
IsOfServiceStep route old (service_steps.Tick loss) moves served new = IsOfServiceTick route loss moves served new
IsOfServiceStep route old service_steps.Restart moves served new = (moves ≡ RouterRestarted ∷ []) × (served ≡ [])
IsOfServiceStep route old service_steps.Sweep moves served new = (moves ≡ Swept ∷ []) × (served ≡ [])

-- what one step does
pub record IsServiceStep (route : Dispatching) (old : routers.State) (step : ServiceStep)
    (moves : List routers.Move) (served : List Served) (new : routers.State) : Type 0 where
  pub run : IsRouterRun route old moves new
  pub own : IsOfServiceStep route old step moves served new

-- The steps of a service, with what it noted, are a router's run over an outbox that was empty, and
-- this is left of the outbox. Its transcript says which of the run's calls were served: all but
-- those that were lost before.
pub record IsServiceRun (service : Service) (noted : Noted) (left : OutboxEnd) : Type 0 where
  pub work : HasWorked (IsServiceStep (dispatch_of service.target)) routers.start service.steps.items
      service.principal service.host noted
  pub run : IsRouterRun (dispatch_of service.target) routers.start work.moves work.state
  pub served : AreServed (routers.calls_of work.moves) (served_by_notes noted.events noted.told)
  pub rows : map stored_row left.rows.items ≡ work.state.outbox.events
  pub mark : left.mark ≡ work.state.outbox.mark

-- neither memory nor the database stopped the tick
abbrev pub ConsumerGoesOn : ConsumerTick → Type 0
ConsumerGoesOn (ConsumerStopped reason) = GoesOnAfter reason
ConsumerGoesOn tick = Unit {0}

-- the one move of a tick of the consumer: what it answers reports it, and its call has the loss
pub record IsOfConsumerTick (t : Subscription) (loss : Loss) (moves : List consumers.Move)
    (served : List Served) : Type 0 where
  pub tick : ConsumerTick
  pub goes_on : ConsumerGoesOn tick
  pub answer : IsConsumerReport t tick moves
  pub made : unmade_by tick moves 0 ≡ 0
  pub lost : AreServedByLoss loss (consumers.calls_of moves) served

-- the moves of one step
abbrev pub IsOfConsumerStep : Subscription → ConsumerStep → List consumers.Move → List Served → Type 0
IsOfConsumerStep t (consumer_steps.Tick loss) moves served = IsOfConsumerTick t loss moves served
IsOfConsumerStep t consumer_steps.Restart moves served = (moves ≡ ConsumerRestarted ∷ []) × (served ≡ [])

-- what one step does
pub record IsConsumerStep (t : Subscription) (old : consumers.State) (step : ConsumerStep)
    (moves : List consumers.Move) (served : List Served) (new : consumers.State) : Type 0 where
  pub run : IsConsumerRun t old moves new
  pub own : IsOfConsumerStep t step moves served

-- The steps of a consumer, with what it noted, are a consumer's run over an inbox that was empty,
-- and this is left of the inbox. Its transcript says which of the run's calls were served: all but
-- those that were lost before.
pub record IsConsumption (consumer : ConsumerPlan) (noted : Noted) (left : InboxEnd) : Type 0 where
  pub work : HasWorked (IsConsumerStep consumer.subscription) consumers.start consumer.steps.items
      consumer.principal consumer.host noted
  pub run : IsConsumerRun consumer.subscription consumers.start work.moves work.state
  pub served : AreServed (consumers.calls_of work.moves) (served_by_notes noted.events noted.told)
  pub rows : map placed_intake left.rows.items ≡ enumerate_from 1 work.state.inbox

-- the steps of a service lead to a state, and this is left of its outbox
pub record IsOutboxLeft (service : Service) (old new : AtDesk) (left : OutboxEnd) : Type 0 where
  pub state : routers.State
  pub leads : Leads (Steps (IsServiceStep (dispatch_of service.target)))
      (with_desk routers.start old) service.steps.items (with_desk state new)
  pub rows : map stored_row left.rows.items ≡ state.outbox.events
  pub mark : left.mark ≡ state.outbox.mark

-- the steps of a consumer lead to a state, and this is left of its inbox
pub record IsInboxLeft (consumer : ConsumerPlan) (old new : AtDesk) (left : InboxEnd) : Type 0 where
  pub state : consumers.State
  pub leads : Leads (Steps (IsConsumerStep consumer.subscription))
      (with_desk consumers.start old) consumer.steps.items (with_desk state new)
  pub rows : map placed_intake left.rows.items ≡ enumerate_from 1 state.inbox

-- a worker, as it was planned
pub data Planned : Type 0 where
  Serving : (service : Service) → Planned
  Consuming : (consumer : ConsumerPlan) → Planned
  Administering : (script : Script) → Planned

abbrev pub planned_as : Worker → Planned
planned_as (workers.Service service) = Serving service
planned_as (workers.Consumer consumer) = Consuming consumer.now
planned_as (workers.Administrator script) = Administering script.now

-- the workers of a plan, in the order of their numbers
abbrev pub planned_workers : Plan → List Planned
planned_workers plan =
    map Serving plan.services.items
    ++ (map Consuming plan.consumers.items ++ map Administering plan.administrators.items)

-- what a worker of each kind notes and leaves after its last step
abbrev pub HasEnded : Planned → Noted → WorkerEnd → Type 0
HasEnded (Serving service) noted (ends.Outbox left) = IsServiceRun service noted left
HasEnded (Consuming consumer) noted (ends.Inbox left) = IsConsumption consumer noted left
HasEnded (Administering script) noted ends.Nothing = noted.events ≡ events_of_script script
HasEnded worker noted end = ⊥

-- the same, unless its database refused
abbrev pub IsLeft : Planned → Noted → WorkerEnd → Type 0
IsLeft worker noted ends.StoreRefused = Unit {0}
IsLeft worker noted end = HasEnded worker noted end

-- the database of the worker did not refuse
abbrev pub IsKeptByStore : WorkerEnd → Type 0
IsKeptByStore ends.StoreRefused = ⊥
IsKeptByStore end = Unit {0}

-- and each event that it noted has its receipt
abbrev pub IsWhole : Done WorkerEnd → Type 0
IsWhole one = IsKeptByStore one.end × IsAnswered (length one.notes.events) one.notes.told
