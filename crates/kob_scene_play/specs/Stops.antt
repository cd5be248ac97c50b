-- Which fault stops a step of a scene, or keeps its stage from being opened.
use Rattle.std.specs.Prelude.{◌≡◌, ◌≢◌, ◌⊎◌, ◌≤◌, ℕ, [], alloc_error, length}
use Rattle.kob_names.specs.declared.settings.Settings.{Settings}
use Rattle.kob_scene_play.specs.declared.fault.PlayFault.{PlayFault}
use Rattle.kob_scene_play.specs.declared.fault.PlayFault.TheVariants.{JournalFull, Memory, NoWorker, NotDue, NotLost, Store, TooMany, WriteFailed}
use Rattle.kob_scene_play.specs.declared.stage.Stage.{Stage}
use Rattle.kob_scene_text.specs.declared.scene.ConsumerStep.{ConsumerStep}
use Rattle.kob_scene_text.specs.declared.scene.ConsumerStep.TheVariants as consumer_steps
use Rattle.kob_scene_text.specs.declared.scene.ServiceStep.{ServiceStep}
use Rattle.kob_scene_text.specs.declared.scene.ServiceStep.TheVariants as service_steps
use Rattle.kob_scene_text.specs.declared.scene.Step.{Step}
use Rattle.kob_scene_text.specs.declared.scene.Step.TheVariants as steps
use Rattle.kob_shared.specs.Journals.{Record}

-- an allocation was refused
abbrev pub IsMemory : PlayFault → Type 0
IsMemory fault = fault ≡ Memory alloc_error

-- an allocation was refused, or a database failed
abbrev pub IsMemoryOrStore : PlayFault → Type 0
IsMemoryOrStore fault = IsMemory fault ⊎ (fault ≡ Store)

-- a request of a principal is not served: there is no memory for it, or the journal has as many
-- entries as it may have
abbrev pub StopsRequest : Record → PlayFault → Type 0
StopsRequest before fault =
    IsMemory fault ⊎ ((fault ≡ JournalFull) × (length before.journal ≡ before.limit))

-- a tick has no result
abbrev pub StopsTick : PlayFault → Type 0
StopsTick (Memory refused) = Unit {0}
StopsTick JournalFull = Unit {0}
StopsTick Store = Unit {0}
StopsTick NoWorker = ⊥
StopsTick TooMany = ⊥
StopsTick NotLost = Unit {0}
StopsTick NotDue = Unit {0}
StopsTick WriteFailed = ⊥

-- a step of a service has none: but for ticks, a database fails only where it is written
abbrev pub StopsService : ServiceStep → PlayFault → Type 0
StopsService (service_steps.Record change event recording) = IsMemoryOrStore
StopsService (service_steps.Tick loss) = StopsTick
StopsService service_steps.Run = StopsTick
StopsService service_steps.Restart = IsMemory
StopsService service_steps.Sweep = IsMemoryOrStore
StopsService service_steps.Outbox = IsMemory
StopsService (service_steps.Business kind key) = IsMemory
StopsService service_steps.Visible = IsMemory

abbrev pub StopsConsumer : ConsumerStep → PlayFault → Type 0
StopsConsumer (consumer_steps.Tick loss) = StopsTick
StopsConsumer consumer_steps.Run = StopsTick
StopsConsumer consumer_steps.Restart = IsMemory
StopsConsumer consumer_steps.Inbox = IsMemory

-- the stage has no service, or no consumer, at this place
abbrev pub IsNoService : ℕ → Stage → PlayFault → Type 0
IsNoService which stage fault = (fault ≡ NoWorker) × (length stage.services.items ≤ which)

abbrev pub IsNoConsumer : ℕ → Stage → PlayFault → Type 0
IsNoConsumer which stage fault = (fault ≡ NoWorker) × (length stage.consumers.items ≤ which)

abbrev pub StopsServiceAt : ℕ → ServiceStep → Stage → PlayFault → Type 0
StopsServiceAt which step stage fault = IsNoService which stage fault ⊎ StopsService step fault

abbrev pub StopsConsumerAt : ℕ → ConsumerStep → Stage → PlayFault → Type 0
StopsConsumerAt which step stage fault = IsNoConsumer which stage fault ⊎ StopsConsumer step fault

-- a question about a service and a consumer is not answered
abbrev pub StopsQuestion : ℕ → ℕ → Stage → PlayFault → Type 0
StopsQuestion service consumer stage fault =
    IsMemory fault ⊎ (IsNoService service stage fault ⊎ IsNoConsumer consumer stage fault)

-- the faults that may stop a step, by the stage before it
abbrev pub MayStop : Step → Stage → PlayFault → Type 0
MayStop (steps.Request event) stage = StopsRequest stage.recorded
MayStop (steps.Service which step) stage = StopsServiceAt which step stage
MayStop (steps.Consumer which step) stage = StopsConsumerAt which step stage
MayStop steps.Journal stage = IsMemory
MayStop (steps.Law service consumer) stage = StopsQuestion service consumer stage
MayStop (steps.Check service consumer) stage = StopsQuestion service consumer stage
MayStop (steps.Expect service consumer what) stage = StopsQuestion service consumer stage

-- the faults for which a stage is not opened; too many bindings only if its settings have any
abbrev pub MayNotOpen : Settings → PlayFault → Type 0
MayNotOpen settings fault =
    IsMemoryOrStore fault ⊎ ((fault ≡ TooMany) × (settings.opening ≢ []))
