-- What a step of a scene changes and prints, and what a whole scene does.
use Rattle.std.specs.Prelude.{◌≡◌, ◌≢◌, ◌⊎◌, ◌+◌, ℕ, List, [], ◌∷◌, ◌++◌, Some, None, Bool, true, false, length, map, slice_get, Option, Ok, Err}
use Rattle.kob_router.specs.Line.{one_more}
use Rattle.kob_scene_play.specs.Stages.{journal_text, IsOpened, declared_consumer, declared_service, named_consumer, named_service}
use Rattle.kob_scene_play.specs.Checks.{IsChecked}
use Rattle.kob_scene_play.specs.Expectations.{IsExpected, all_met}
use Rattle.kob_scene_play.specs.Laws.{IsAnswered}
use Rattle.kob_scene_play.specs.Steps.{BeginsConsumer, BeginsService, IsConsumerStep, IsServiceStep, Writes}
use Rattle.kob_scene_play.specs.Stops.{MayNotOpen, MayStop}
use Rattle.kob_scene_play.specs.declared.stage.PlayedConsumer.{PlayedConsumer}
use Rattle.kob_scene_play.specs.declared.stage.PlayedService.{PlayedService}
use Rattle.kob_scene_play.specs.declared.stage.Stage.{Stage}
use Rattle.kob_scene_play.specs.declared.stage.Unmet.{Unmet}
use Rattle.kob_scene_text.specs.declared.scene.ConsumerStep.{ConsumerStep}
use Rattle.kob_scene_text.specs.declared.scene.Scene.{Scene}
use Rattle.kob_scene_text.specs.declared.scene.ServiceStep.{ServiceStep}
use Rattle.kob_scene_text.specs.declared.scene.Step.{Step}
use Rattle.kob_script.specs.Printed.{reply_text}
use Rattle.kob_shared.specs.Journals.{Record, after_event, outcome_of}
use Rattle.kob_shared.specs.declared.journal.Entry.{Entry}
use Rattle.std.specs.Io.KnownBytes.{Appends}
use Rattle.kob_scene_play.specs.declared.text.Ended.{Ended}
use Rattle.kob_scene_play.specs.Forms.{fault_shown, line_at, shown_by, shown_text, stopped_shown}
use Rattle.kob_scene_play.specs.declared.fault.PlayFault.{PlayFault}
use Rattle.kob_scene_play.specs.declared.form.Form.{Form}
use Rattle.kob_scene_play.specs.declared.form.Shown.{Shown}
use Rattle.kob_scene_play.specs.declared.playing.Played.{Played}
use Rattle.kob_scene_play.specs.declared.playing.Played.TheVariants as played
use Rattle.kob_scene_text.specs.Scenes.{HasLines, MayRead, seen}
use Rattle.kob_scene_text.specs.declared.scene.ConsumerStep.TheVariants as consumer_steps
use Rattle.kob_scene_text.specs.declared.scene.ServiceStep.TheVariants as service_steps
use Rattle.kob_scene_text.specs.declared.scene.Step.TheVariants as steps
use Rattle.kob_scene_play.specs.declared.text.Ended.TheVariants as ended
use Rattle.kob_scene_text.specs.declared.fault.SceneError.TheVariants as scene_error

-- at every other place is what was there
abbrev pub OthersStay : {A : Type 0} → ℕ → List A → List A → Type 0
OthersStay which old new = (k : ℕ) → k ≢ which → slice_get new k ≡ slice_get old k

-- the service at this place made the step, printed its answer, and kept its name
abbrev pub IsServed : ℕ → ServiceStep → List PlayedService → List PlayedService → Record → Record → ℕ
    → ℕ → List ℕ → Type 0
IsServed which step old new before after told then_told text =
    (was is : PlayedService)
    × (slice_get old which ≡ Some was)
    × (slice_get new which ≡ Some is)
    × (is.name ≡ was.name)
    × IsServiceStep step was.service is.service before after told then_told text

-- the consumer at this place made the step, printed its answer, and kept its name
abbrev pub IsRead : ℕ → ConsumerStep → List PlayedConsumer → List PlayedConsumer → Record → Record
    → ℕ → ℕ → List ℕ → Type 0
IsRead which step old new before after told then_told text =
    (was is : PlayedConsumer)
    × (slice_get old which ≡ Some was)
    × (slice_get new which ≡ Some is)
    × (is.name ≡ was.name)
    × IsConsumerStep step was.consumer is.consumer before after told then_told text

-- What a step on a line changes, and what it prints; before it so many answers were printed, and
-- then so many. A request is one entry more, of worker 0. A step of a worker changes no other worker,
-- and the journal by its own calls alone; a question changes nothing. Things that are expected and
-- not so are counted.
abbrev pub IsStep : Step → ℕ → Stage → Stage → ℕ → ℕ → List ℕ → Type 0
IsStep (steps.Request event) line old new told then_told text =
    (new.recorded ≡ after_event old.recorded 0 event)
    × (new.services ≡ old.services)
    × (new.consumers ≡ old.consumers)
    × (new.unmet ≡ old.unmet)
    × (then_told ≡ one_more told)
    × (text ≡ reply_text (one_more told) (outcome_of old.recorded event).reply)
IsStep (steps.Service which step) line old new told then_told text =
    (new.consumers ≡ old.consumers)
    × (new.unmet ≡ old.unmet)
    × OthersStay which old.services.items new.services.items
    × IsServed which step old.services.items new.services.items old.recorded new.recorded told
    then_told text
IsStep (steps.Consumer which step) line old new told then_told text =
    (new.services ≡ old.services)
    × (new.unmet ≡ old.unmet)
    × OthersStay which old.consumers.items new.consumers.items
    × IsRead which step old.consumers.items new.consumers.items old.recorded new.recorded told
    then_told text
IsStep steps.Journal line old new told then_told text =
    (new ≡ old) × (then_told ≡ one_more told) × (text ≡ journal_text (one_more told) old)
IsStep (steps.Law service consumer) line old new told then_told text =
    (new.recorded ≡ old.recorded)
    × (new.services ≡ old.services)
    × (new.consumers.items ≡ old.consumers.items)
    × (new.unmet ≡ old.unmet)
    × (then_told ≡ one_more told)
    × IsAnswered service consumer old told text
IsStep (steps.Check service consumer) line old new told then_told text =
    (new.recorded ≡ old.recorded)
    × (new.services.items ≡ old.services.items)
    × (new.consumers.items ≡ old.consumers.items)
    × (new.unmet ≡ old.unmet)
    × (then_told ≡ one_more told)
    × IsChecked service consumer old told text
IsStep (steps.Expect service consumer what) line old new told then_told text =
    (new.recorded ≡ old.recorded)
    × (new.services.items ≡ old.services.items)
    × (new.consumers.items ≡ old.consumers.items)
    × (then_told ≡ one_more told)
    × IsExpected service consumer what line old new.unmet told text

-- the line of the step at a place, and how its answers are shown, by the number of entries of the
-- journal before it, and by the journal after it
pub record Show : Type 0 where
  pub line : ℕ → ℕ
  pub text : ℕ → ℕ → List Entry → List ℕ → List ℕ

-- a step as it is shown
abbrev pub IsShown : Show → ℕ → Step → Stage → Stage → ℕ → ℕ → List ℕ → Type 0
IsShown show place step old new told then_told text =
    (answers : List ℕ)
    × IsStep step (show.line place) old new told then_told answers
    × (text ≡ show.text place (length old.recorded.journal) new.recorded.journal answers)

-- steps from a place on, each from where the one before it ended: what they change, how many answers
-- are printed, and what is shown of them, one text behind the other
abbrev pub ArePlayed : Show → ℕ → List Step → Stage → Stage → ℕ → ℕ → List ℕ → Type 0
ArePlayed show place [] old new told then_told text =
    (new ≡ old) × (then_told ≡ told) × (text ≡ [])
ArePlayed show place (step ∷ later) old new told then_told text =
    (mid : Stage) × (mid_told : ℕ) × (front back : List ℕ)
    × IsShown show place step old mid told mid_told front
    × ArePlayed show (place + 1) later mid new mid_told then_told back
    × (text ≡ front ++ back)

-- the ticks of a run that stopped, and what they print: none where there is no such worker
abbrev pub IsServiceBeginning : Option PlayedService → Record → ℕ → ℕ → List ℕ → Type 0
IsServiceBeginning None before told then_told text = (then_told ≡ told) × (text ≡ [])
IsServiceBeginning (Some played) before told then_told text =
    BeginsService played.service before told then_told text

abbrev pub IsConsumerBeginning : Option PlayedConsumer → Record → ℕ → ℕ → List ℕ → Type 0
IsConsumerBeginning None before told then_told text = (then_told ≡ told) × (text ≡ [])
IsConsumerBeginning (Some played) before told then_told text =
    BeginsConsumer played.consumer before told then_told text

abbrev pub IsRunBeginning : Step → Stage → ℕ → ℕ → List ℕ → Type 0
IsRunBeginning (steps.Service which service_steps.Run) stage told then_told text =
    IsServiceBeginning (slice_get stage.services.items which) stage.recorded told then_told text
IsRunBeginning (steps.Consumer which consumer_steps.Run) stage told then_told text =
    IsConsumerBeginning (slice_get stage.consumers.items which) stage.recorded told then_told text
IsRunBeginning step stage told then_told text = ⊥

-- a run has an answer for each of its ticks
abbrev pub is_run : Step → Bool
is_run (steps.Service which service_steps.Run) = true
is_run (steps.Consumer which consumer_steps.Run) = true
is_run step = false

-- A step that stopped shows nothing, or, if it is a run, the answers of its ticks before, by the
-- journal as it is then.
abbrev pub Leaves : Show → ℕ → Step → Stage → List Entry → ℕ → ℕ → List ℕ → Type 0
Leaves show place step old journal told then_told text =
    ((then_told ≡ told) × (text ≡ []))
    ⊎ ((answers : List ℕ)
    × IsRunBeginning step old told then_told answers
    × (text ≡ show.text place (length old.recorded.journal) journal answers))

-- steps were played up to one that this fault stopped
abbrev pub StopsIn : Show → List Step → Stage → PlayFault → ℕ → ℕ → List ℕ → Type 0
StopsIn show all old fault told then_told text =
    (done later : List Step) × (step : Step) × (mid : Stage) × (mid_told : ℕ)
    × (journal : List Entry) × (front back : List ℕ)
    × (all ≡ done ++ step ∷ later)
    × ArePlayed show 0 done old mid told mid_told front
    × MayStop step mid fault
    × Leaves show (length done) step mid journal mid_told then_told back
    × (text ≡ front ++ back)

-- a stage where no step was made: each declared worker is there in its order
abbrev pub IsReady : Scene → Stage → Type 0
IsReady scene opened =
    IsOpened scene.settings opened
    × (opened.unmet ≡ all_met)
    × (map named_service opened.services.items ≡ map declared_service scene.services.items)
    × (map named_consumer opened.consumers.items ≡ map declared_consumer scene.consumers.items)

-- all steps of a scene, and what was expected in them and not so
abbrev pub IsPlayed : Show → Scene → Unmet → List ℕ → Type 0
IsPlayed show scene unmet text =
    (opened closed : Stage) × (told : ℕ)
    × IsReady scene opened
    × ArePlayed show 0 scene.steps.items opened closed 0 told text
    × (unmet ≡ closed.unmet)

-- a scene that a fault stopped after so many answers: before its first step, or at one of its steps
abbrev pub IsCut : Show → Scene → PlayFault → ℕ → List ℕ → Type 0
IsCut show scene fault told text =
    (MayNotOpen scene.settings fault × (told ≡ 0) × (text ≡ []))
    ⊎ ((opened : Stage)
    × IsReady scene opened
    × StopsIn show scene.steps.items opened fault 0 told text)

-- What is written for the text of a scene.

-- steps were played, and what is shown of them was written, but for what is held
abbrev pub WritesSteps : Show → List Step → Stage → Stage → ℕ → ℕ → Option (List ℕ) → List ℕ
    → Option (List ℕ) → List ℕ → Type 0
WritesSteps show steps old new told then_told before held now then_held =
    (text : List ℕ)
    × ArePlayed show 0 steps old new told then_told text
    × Writes before held now then_held text

-- the same of steps that stopped, if there is a fault
abbrev pub EndsSteps : Show → List Step → Stage → Stage → ℕ → ℕ → Option (List ℕ) → List ℕ
    → Option (List ℕ) → List ℕ → Option PlayFault → Type 0
EndsSteps show steps old new told then_told before held now then_held None =
    WritesSteps show steps old new told then_told before held now then_held
EndsSteps show steps old new told then_told before held now then_held (Some fault) =
    (text : List ℕ)
    × StopsIn show steps old fault told then_told text
    × Writes before held now then_held text

abbrev pub show_by : Shown → List ℕ → Show
show_by shown lines = record { line = line_at lines; text = shown_text shown lines }

abbrev pub show_of : Shown → Scene → Show
show_of shown scene = show_by shown scene.lines.items

-- a scene was played, or stopped after so many answers, and what is shown of it was written, but for
-- what is held
abbrev pub EndsScene : Shown → Scene → ℕ → Option (List ℕ) → Option (List ℕ) → List ℕ
    → Played → Type 0
EndsScene shown scene told before now held (played.Whole unmet) =
    (text : List ℕ) × IsPlayed (show_of shown scene) scene unmet text
    × Writes before [] now held text
EndsScene shown scene told before now held (played.Stopped fault) =
    (text : List ℕ) × IsCut (show_of shown scene) scene fault told text × Writes before [] now held text

-- all steps were played, and what is shown of them was written
abbrev pub EndsWhole : Shown → Scene → Option (List ℕ) → Option (List ℕ) → Unmet → Type 0
EndsWhole shown scene before now unmet =
    (text : List ℕ) × IsPlayed (show_of shown scene) scene unmet text × Appends before now text

-- How the playing of a scene ended, and what was written. Where it stopped, the fault is one that may
-- stop it there, and the answers before are written, and then their number.
abbrev pub EndsAs : Shown → Scene → Option (List ℕ) → Option (List ℕ) → Ended → Type 0
EndsAs shown scene before now ended.Clean =
    (unmet : Unmet) × (unmet.count ≡ 0) × EndsWhole shown scene before now unmet
EndsAs shown scene before now (ended.Unmet unmet) =
    (unmet.count ≢ 0) × EndsWhole shown scene before now unmet
EndsAs shown scene before now (ended.Fault fault) = ⊥
EndsAs shown scene before now (ended.Stopped fault) =
    (told : ℕ) × (text : List ℕ)
    × IsCut (show_of shown scene) scene fault told text
    × Appends before now (text ++ stopped_shown shown told)

-- what was written for a text, by how it ended
abbrev pub IsWritten : Form → List ℕ → Option (List ℕ) → Option (List ℕ) → Ended → Type 0
IsWritten form source before now ended.Clean =
    (scene : Scene) × MayRead source (Ok scene) × HasLines source (seen scene) scene.lines.items
    × EndsAs (shown_by form source) scene before now ended.Clean
IsWritten form source before now (ended.Unmet unmet) =
    (scene : Scene) × MayRead source (Ok scene) × HasLines source (seen scene) scene.lines.items
    × EndsAs (shown_by form source) scene before now (ended.Unmet unmet)
IsWritten form source before now (ended.Fault fault) =
    MayRead source (Err (scene_error.Fault fault)) × Appends before now (fault_shown form fault)
IsWritten form source before now (ended.Stopped fault) =
    (scene : Scene) × MayRead source (Ok scene) × HasLines source (seen scene) scene.lines.items
    × EndsAs (shown_by form source) scene before now (ended.Stopped fault)
