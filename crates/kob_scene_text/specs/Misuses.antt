-- What a word of a line is where its line means something else by it: a worker of the other kind, or
-- a step that workers of the other kind have.
use Rattle.std.specs.Prelude.{ℕ, ◌==◌, ◌&&◌, List, [], ◌∷◌, Option, Some, None, slice_get, if◌then◌else◌}
use Rattle.std.specs.Option.{option_map}
use Rattle.kob_script.specs.Words.{Word}
use Rattle.kob_scene_text.specs.Places.{same_kind, worker_in}
use Rattle.kob_scene_text.specs.Reading.{bad_line}
use Rattle.kob_scene_text.specs.StepNames.{step_named}
use Rattle.kob_scene_text.specs.declared.fault.SceneFaultKind.{SceneFaultKind}
use Rattle.kob_scene_text.specs.declared.fault.SceneFaultKind.TheVariants.{UnknownWorker}
use Rattle.kob_scene_text.specs.declared.misuse.Misuse.{Misuse}
use Rattle.kob_scene_text.specs.declared.misuse.Misuse.TheVariants.{ServiceName, ConsumerName, ServiceStep, ConsumerStep}
use Rattle.kob_scene_text.specs.declared.name.Worker.{Worker}
use Rattle.kob_scene_text.specs.declared.name.Worker.TheVariants as workers
use Rattle.kob_scene_text.specs.declared.step_names.StepName.{StepName}
use Rattle.kob_scene_text.specs.declared.step_names.StepName.TheVariants.{Record, Tick, Run, Restart, Sweep, Outbox, Business, Visible, Inbox}

-- a worker where one of the other kind is meant
abbrev pub misuse_of_worker : Worker → Misuse
misuse_of_worker (workers.Service place) = ServiceName
misuse_of_worker (workers.Consumer place) = ConsumerName

abbrev pub misuse_of_name : List (List ℕ) → Option Word → Option Misuse
misuse_of_name lines None = None
misuse_of_name lines (Some word) = option_map misuse_of_worker (worker_in lines word.decoded)

-- a step behind the name of a worker
abbrev pub misuse_of_step : Worker → StepName → Option Misuse
misuse_of_step (workers.Service place) Record = None
misuse_of_step (workers.Service place) Tick = None
misuse_of_step (workers.Service place) Run = None
misuse_of_step (workers.Service place) Restart = None
misuse_of_step (workers.Service place) Sweep = None
misuse_of_step (workers.Service place) Outbox = None
misuse_of_step (workers.Service place) Business = None
misuse_of_step (workers.Service place) Visible = None
misuse_of_step (workers.Service place) Inbox = Some ConsumerStep
misuse_of_step (workers.Consumer place) Record = Some ServiceStep
misuse_of_step (workers.Consumer place) Tick = None
misuse_of_step (workers.Consumer place) Run = None
misuse_of_step (workers.Consumer place) Restart = None
misuse_of_step (workers.Consumer place) Sweep = Some ServiceStep
misuse_of_step (workers.Consumer place) Outbox = Some ServiceStep
misuse_of_step (workers.Consumer place) Business = Some ServiceStep
misuse_of_step (workers.Consumer place) Visible = Some ServiceStep
misuse_of_step (workers.Consumer place) Inbox = None

abbrev pub misuse_between : Option Worker → Option StepName → Option Misuse
misuse_between None step = None
misuse_between (Some worker) None = None
misuse_between (Some worker) (Some step) = misuse_of_step worker step

-- the second word of a line is a step
abbrev pub misuse_behind : List (List ℕ) → List Word → Option Misuse
misuse_behind lines [] = None
misuse_behind lines (worker ∷ []) = None
misuse_behind lines (worker ∷ step ∷ rest) =
    misuse_between (worker_in lines worker.decoded) (step_named step.decoded)

-- the word at a place that has a fault of this kind, in a line behind these lines
abbrev pub misuse_at : List (List ℕ) → List Word → SceneFaultKind → ℕ → Option Misuse
misuse_at lines words kind place =
    if same_kind kind UnknownWorker then misuse_of_name lines (slice_get words place)
    else (if same_kind kind bad_line && place == 1 then misuse_behind lines words else None)
