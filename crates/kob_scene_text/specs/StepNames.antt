-- The names of steps, those of services and those of consumers.
use Rattle.std.specs.Prelude.{ℕ, List, [], ◌∷◌, Option, codes, find}
use Rattle.std.specs.Str.{bytes_eq}
use Rattle.kob_scene_text.specs.declared.step_names.StepName.{StepName}
use Rattle.kob_scene_text.specs.declared.step_names.StepName.TheVariants.{Record, Tick, Run, Restart, Sweep, Outbox, Business, Visible, Inbox}

abbrev pub step_text : StepName → List ℕ
step_text Record = codes "record"
step_text Tick = codes "tick"
step_text Run = codes "run"
step_text Restart = codes "restart"
step_text Sweep = codes "sweep"
step_text Outbox = codes "outbox"
step_text Business = codes "business"
step_text Visible = codes "visible"
step_text Inbox = codes "inbox"

abbrev pub all_steps : List StepName
all_steps =
    Record ∷ Tick ∷ Run ∷ Restart ∷ Sweep ∷ Outbox ∷ Business ∷ Visible ∷ Inbox ∷ []

-- the step of this name
abbrev pub step_named : List ℕ → Option StepName
step_named word = find (λ step. bytes_eq word (step_text step)) all_steps
