-- A scene: settings, workers, and steps, a line each.
use Rattle.std.specs.Prelude.{ℕ, ◌+◌, ◌-◌, Bool, ◌&&◌, ◌||◌, ◌==◌, List, [], ◌∷◌, ◌++◌, Option, Some, Result, Ok, Err, length, map, replicate, slice_get, if◌then◌else◌, ◌≡◌, true, false, None}
use Rattle.kob_acl_cli.specs.declared.args.CliArgs.{CliArgs}
use Rattle.kob_names.specs.declared.settings.Settings.{Settings}
use Rattle.kob_rights.specs.declared.event.Event.{Event}
use Rattle.kob_script.specs.CommandLines.{events_of}
use Rattle.kob_script.specs.declared.fault.FaultKind.TheVariants.{LateSetting}
use Rattle.kob_script.specs.Script.{no_settings, settings_with, lines_in, IsAnswerToLine, is_setting}
use Rattle.kob_script.specs.Words.{Word, words_of}
use Rattle.kob_scene_text.specs.declared.consumer_lines.DeclaredConsumer.{DeclaredConsumer}
use Rattle.kob_scene_text.specs.declared.fault.SceneFaultKind.{SceneFaultKind}
use Rattle.kob_scene_text.specs.declared.name.Worker.{Worker}
use Rattle.kob_scene_text.specs.declared.line.Head.{Head}
use Rattle.kob_scene_text.specs.declared.reading.Reading.{Reading}
use Rattle.kob_scene_text.specs.declared.scene.Consumer.{Consumer}
use Rattle.kob_scene_text.specs.declared.scene.Scene.{Scene}
use Rattle.kob_scene_text.specs.declared.scene.Sending.{Sending}
use Rattle.kob_scene_text.specs.declared.scene.Sending.TheVariants as sendings
use Rattle.kob_scene_text.specs.declared.scene.Service.{Service}
use Rattle.kob_scene_text.specs.declared.scene.Start.{Start}
use Rattle.kob_scene_text.specs.declared.scene.Start.TheVariants as starts
use Rattle.kob_scene_text.specs.declared.scene.Step.{Step}
use Rattle.kob_scene_text.specs.declared.scene.Taking.{Taking}
use Rattle.kob_scene_text.specs.declared.scene.Taking.TheVariants as takings
use Rattle.kob_scene_text.specs.declared.service_lines.DeclaredService.{DeclaredService}
use Rattle.kob_scene_text.specs.Workers.{consumer_of, consumer_named, new_name, service_named, worker_named, service_of}
use Rattle.kob_scene_text.specs.Steps.{head_of, ServiceTold, consumer_step_of, expected_of, service_step_of, service_told, head_by_word}
use Rattle.kob_scene_text.specs.Reading.{◌>>>◌, as_scripts, bad_line, Fails}
use Rattle.kob_scene_text.specs.declared.fault.SceneError.{SceneError}
use Rattle.kob_scene_text.specs.declared.fault.SceneFault.{SceneFault}
use Rattle.kob_scene_text.specs.declared.fault.StepError.{StepError}
use Rattle.std.specs.List.{list_all}
use Rattle.kob_script.specs.declared.fault.Fault.{Fault}
use Rattle.kob_script.specs.declared.fault.FaultKind.{FaultKind}
use Rattle.kob_script.specs.declared.script.Script.{Script}
use Rattle.kob_scene_text.specs.declared.name.Worker.TheVariants as workers
use Rattle.kob_scene_text.specs.declared.line.Head.TheVariants as heads
use Rattle.kob_scene_text.specs.declared.scene.Step.TheVariants as step_forms
use Rattle.kob_scene_text.specs.declared.fault.SceneError.TheVariants as scene_error
use Rattle.kob_scene_text.specs.declared.fault.StepError.TheVariants as step_error
use Rattle.kob_scene_text.specs.declared.fault.SceneFaultKind.TheVariants as kinds

-- a step as it is seen: of a service by the texts that it writes, else as it is
pub data Told : Type 0 where
  OfService : ℕ → ServiceTold → Told
  Plain : Step → Told

abbrev pub told : Step → Told
told (step_forms.Service place s) = OfService place (service_told s)
told s = Plain s

-- a scene as it is seen
pub record Seen : Type 0 where
  pub settings : Settings
  pub services : List Service
  pub consumers : List Consumer
  pub steps : List Told

abbrev pub seen : Scene → Seen
seen scene = record {
  settings = scene.settings;
  services = scene.services.items;
  consumers = scene.consumers.items;
  steps = map told scene.steps.items;
}

-- what is read so far, in which no binding is opened
abbrev pub so_far : Reading → Seen
so_far reading = record {
  settings = record { supers = reading.supers.items; opening = []; everyone = reading.everyone };
  services = reading.services.items;
  consumers = reading.consumers.items;
  steps = map told reading.steps.items;
}

abbrev pub nothing_yet : Seen
nothing_yet = record { settings = no_settings; services = []; consumers = []; steps = [] }

-- nothing but settings so far
abbrev pub is_early : Seen → Bool
is_early s =
    length s.steps == 0 && length s.services == 0 && length s.consumers == 0

-- with steps more
abbrev pub with_steps : Seen → List Told → Seen
with_steps s more = record s { steps = s.steps ++ more }

-- a setting comes before every request, declaration and step
abbrev pub with_setting : Seen → Word → List Word → Result Seen SceneFaultKind
with_setting s first arguments =
    if is_early s then
    (as_scripts (settings_with s.settings first arguments)
    >>> λ settings. Ok (record s { settings = settings }))
    else Err (kinds.Script LateSetting)

-- workers have numbers from 1 on, services and consumers counted together
abbrev pub next_worker : Seen → ℕ
next_worker s = length s.services + length s.consumers + 1

abbrev pub service_at : ℕ → List ℕ → DeclaredService → Service
service_at number name declared = record {
  name = name;
  worker = number;
  principal = declared.who.principal;
  host = declared.who.host;
  settings = declared.settings;
  routed = declared.routed;
  sending = declared.sending;
}

-- service NAME and its declaration
abbrev pub with_service : Seen → List Word → Result Seen SceneFaultKind
with_service s [] = Err bad_line
with_service s (name ∷ words) =
    new_name s.services s.consumers name >>> λ name. service_of words >>> λ declared.
    Ok (record s { services = s.services ++ service_at (next_worker s) name declared ∷ [] })

abbrev pub consumer_at : ℕ → List ℕ → DeclaredConsumer → Consumer
consumer_at number name declared = record {
  name = name;
  worker = number;
  principal = declared.who.principal;
  host = declared.who.host;
  subscription = declared.subscription;
  start = declared.start;
  taking = declared.taking;
}

-- consumer NAME and its declaration
abbrev pub with_consumer : Seen → List Word → Result Seen SceneFaultKind
with_consumer s [] = Err bad_line
with_consumer s (name ∷ words) =
    new_name s.services s.consumers name >>> λ name. consumer_of words >>> λ declared.
    Ok (record s { consumers = s.consumers ++ consumer_at (next_worker s) name declared ∷ [] })

-- journal
abbrev pub with_journal : Seen → List Word → Result Seen SceneFaultKind
with_journal s [] = Ok (with_steps s (Plain step_forms.Journal ∷ []))
with_journal s (word ∷ words) = Err bad_line

abbrev pub both_of : Option ℕ → Option ℕ → Result (ℕ × ℕ) SceneFaultKind
both_of (Some service) (Some consumer) = Ok (service, consumer)
both_of (Some service) None = Err kinds.UnknownWorker
both_of None consumer = Err kinds.UnknownWorker

-- SERVICE CONSUMER, by their places
abbrev pub pair_named : Seen → Word → Word → Result (ℕ × ℕ) SceneFaultKind
pair_named s service consumer =
    both_of (service_named s.services service.decoded)
    (consumer_named s.consumers consumer.decoded)

abbrev pub pair_of : Seen → List Word → Result (ℕ × ℕ) SceneFaultKind
pair_of s (service ∷ consumer ∷ []) = pair_named s service consumer
pair_of s (service ∷ consumer ∷ word ∷ words) = Err bad_line
pair_of s (service ∷ []) = Err bad_line
pair_of s [] = Err bad_line

-- Variants, of which the laws of delivery do not speak.

abbrev pub is_latest : Start → Bool
is_latest starts.Earliest = false
is_latest starts.Latest = true

abbrev pub is_variant_taking : Taking → Bool
is_variant_taking takings.Proved = false
is_variant_taking takings.CommitsBefore = true
is_variant_taking takings.NoDedup = true

abbrev pub is_variant_sending : Sending → Bool
is_variant_sending sendings.Proved = false
is_variant_sending sendings.RetriesNew = true
is_variant_sending sendings.DeletesFirst = true
is_variant_sending sendings.NotIdempotent = true
is_variant_sending sendings.Separate = true
is_variant_sending sendings.VisibleLate = true

abbrev pub is_variant_service : Option Service → Bool
is_variant_service None = false
is_variant_service (Some service) = is_variant_sending service.sending

abbrev pub is_variant_consumer : Option Consumer → Bool
is_variant_consumer None = false
is_variant_consumer (Some consumer) = is_latest consumer.start || is_variant_taking consumer.taking

-- the service at its place sends otherwise than the proved router, or the consumer at its place
-- begins at the end, or takes in otherwise than the proved one
abbrev pub has_variant : List Service → ℕ → List Consumer → ℕ → Bool
has_variant services service consumers consumer =
    is_variant_service (slice_get services service)
    || is_variant_consumer (slice_get consumers consumer)

-- law SERVICE CONSUMER, of which none is a variant
abbrev pub with_law : Seen → List Word → Result Seen SceneFaultKind
with_law s words =
    pair_of s words >>> λ pair.
    if has_variant s.services pair.0 s.consumers pair.1 then Err kinds.NoLaw
    else Ok (with_steps s (Plain (step_forms.Law pair.0 pair.1) ∷ []))

-- check SERVICE CONSUMER
abbrev pub with_check : Seen → List Word → Result Seen SceneFaultKind
with_check s words =
    pair_of s words >>> λ pair. Ok (with_steps s (Plain (step_forms.Check pair.0 pair.1) ∷ []))

-- expect SERVICE CONSUMER and what is expected
abbrev pub with_expect : Seen → List Word → Result Seen SceneFaultKind
with_expect s (service ∷ consumer ∷ rest) =
    pair_named s service consumer >>> λ pair. expected_of rest
    >>> λ what. Ok (with_steps s (Plain (step_forms.Expect pair.0 pair.1 what) ∷ []))
with_expect s (service ∷ []) = Err bad_line
with_expect s [] = Err bad_line

abbrev pub sending_by_service : Option Service → Sending
sending_by_service None = sendings.Proved
sending_by_service (Some service) = service.sending

-- how the service at this place sends
abbrev pub sending_at : List Service → ℕ → Sending
sending_at services place = sending_by_service (slice_get services place)

-- a worker's step
abbrev pub with_step : Seen → Worker → List Word → Result Seen SceneFaultKind
with_step s (workers.Service place) words =
    service_step_of (sending_at s.services place) words
    >>> λ step. Ok (with_steps s (OfService place step ∷ []))
with_step s (workers.Consumer place) words =
    as_scripts (consumer_step_of words)
    >>> λ found. Ok (with_steps s (Plain (step_forms.Consumer place found) ∷ []))

-- a line's requests, by clap's answer to it
abbrev pub asked : Event → Told
asked event = Plain (step_forms.Request event)

abbrev pub with_requests : Option CliArgs → Seen → List Word → Result Seen SceneFaultKind
with_requests answer s words =
    as_scripts (events_of answer words) >>> λ events. Ok (with_steps s (map asked events))

-- what a line says that begins so
abbrev pub with_head : Option CliArgs → Head → Seen → Word → List Word
    → Result Seen SceneFaultKind
with_head answer heads.Setting s first rest = with_setting s first rest
with_head answer heads.Service s first rest = with_service s rest
with_head answer heads.Consumer s first rest = with_consumer s rest
with_head answer heads.Journal s first rest = with_journal s rest
with_head answer heads.Law s first rest = with_law s rest
with_head answer heads.Check s first rest = with_check s rest
with_head answer heads.Expect s first rest = with_expect s rest
with_head answer (heads.Of worker) s first rest = with_step s worker rest
with_head answer heads.Unknown s first rest = Err kinds.UnknownWorker
with_head answer heads.Request s first rest = with_requests answer s (first ∷ rest)

-- the scene with a line more; a skipped line has no words
unfoldable pub with_words : Option CliArgs → Seen → List Word → Result Seen SceneFaultKind
with_words answer s [] = Ok s
with_words answer s (first ∷ rest) =
    with_head answer
    (head_of (worker_named s.services s.consumers first.decoded) first rest) s first rest

unfoldable pub with_line : Option CliArgs → Seen → List ℕ → Result Seen SceneFaultKind
with_line answer s line = as_scripts (words_of line) >>> with_words answer s

-- What bytes may be read as, by what clap may answer to their `acl` lines.

-- What is read so far is what reading gives, unless memory ran out.
abbrev pub ReadsNext : Reading → Result (Unit {0}) StepError → Result Seen SceneFaultKind → Type 0
ReadsNext reading (Ok done) read = read ≡ Ok (so_far reading)
ReadsNext reading (Err error) read = Fails error read

-- with a line more, the scene may be this
abbrev pub LineReadsAs : Seen → List ℕ → Result Seen SceneFaultKind → Type 0
LineReadsAs s line read =
    (answer : Option CliArgs) × IsAnswerToLine (words_of line) answer
    × (with_line answer s line ≡ read)

-- A line more was read with an answer that clap may give, unless memory ran out.
abbrev pub ReadsLine : Seen → List ℕ → Reading → Result (Unit {0}) StepError → Type 0
ReadsLine s line reading (Ok done) = LineReadsAs s line (Ok (so_far reading))
ReadsLine s line reading (Err (step_error.Memory e)) = Unit {0}
ReadsLine s line reading (Err (step_error.Fault kind)) = LineReadsAs s line (Err kind)

-- the lines after one may be read as this, unless that one has a fault
abbrev pub ThenLines : ℕ → Result Seen SceneFaultKind → (Seen → Type 0)
    → Result Seen SceneFault → Type 0
ThenLines number (Ok s) Others read = Others s
ThenLines number (Err kind) Others read = read ≡ Err (record { line = number; kind = kind })

-- the lines from one on, whose number is given, may be read as this
unfoldable pub LinesFrom : Seen → ℕ → List (List ℕ) → Result Seen SceneFault → Type 0
LinesFrom s number [] read = read ≡ Ok s
LinesFrom s number (line ∷ lines) read =
    (first : Result Seen SceneFaultKind) × LineReadsAs s line first
    × ThenLines number first (λ next. LinesFrom next (number + 1) lines read) read

-- The bytes may be read as this scene, or as having this first fault, with lines counted from 1.
abbrev pub ReadsAs : List ℕ → Result Seen SceneFault → Type 0
ReadsAs text read = LinesFrom nothing_yet 1 (lines_in text) read

-- A scene was read as its bytes may be, unless memory ran out.
abbrev pub MayRead : List ℕ → Result Scene SceneError → Type 0
MayRead text (Ok scene) = ReadsAs text (Ok (seen scene))
MayRead text (Err (scene_error.Memory e)) = Unit {0}
MayRead text (Err (scene_error.Fault fault)) = ReadsAs text (Err fault)

-- The line of each step.

-- the steps that a line adds are of that line; lines are counted from the number that is given
unfoldable pub LinesFollow : Seen → ℕ → List (List ℕ) → Seen → List ℕ → Type 0
LinesFollow s number [] read numbers = (read ≡ s) × (numbers ≡ [])
LinesFollow s number (line ∷ lines) read numbers =
    (next : Seen) × (later : List ℕ)
    × LineReadsAs s line (Ok next)
    × LinesFollow next (number + 1) lines read later
    × (numbers ≡ replicate (length next.steps - length s.steps) number ++ later)

-- The bytes may be read as this scene, whose steps are of these lines, counted from 1.
abbrev pub HasLines : List ℕ → Seen → List ℕ → Type 0
HasLines text read numbers = LinesFollow nothing_yet 1 (lines_in text) read numbers

-- what was wrong, with the number of its line
abbrev pub fault_at : ℕ → StepError → SceneError
fault_at line (step_error.Memory e) = scene_error.Memory e
fault_at line (step_error.Fault kind) = scene_error.Fault (record { line = line; kind = kind })

-- Scripts as scenes.

abbrev pub is_request : Head → Bool
is_request heads.Setting = false
is_request heads.Service = false
is_request heads.Consumer = false
is_request heads.Journal = false
is_request heads.Law = false
is_request heads.Check = false
is_request heads.Expect = false
is_request (heads.Of worker) = false
is_request heads.Unknown = false
is_request heads.Request = true

-- a line of a script: a setting, or no line of a worker where none is declared
abbrev pub is_script_line : Result (List Word) FaultKind → Bool
is_script_line (Ok []) = true
is_script_line (Ok (first ∷ rest)) =
    if is_setting first then true else is_request (head_by_word None first.decoded rest)
is_script_line (Err kind) = true

-- No line of the bytes is a worker's.
abbrev pub HasNoWorkerLine : List ℕ → Type 0
HasNoWorkerLine text = list_all (λ line. is_script_line (words_of line)) (lines_in text) ≡ true

-- a script as a scene without workers
abbrev pub scene_of : Script → Seen
scene_of script = record {
  settings = script.settings;
  services = [];
  consumers = [];
  steps = map asked script.events;
}

-- what is read as a script, as what is read as a scene
abbrev pub as_line : Result Script FaultKind → Result Seen SceneFaultKind
as_line (Ok script) = Ok (scene_of script)
as_line (Err fault) = Err (kinds.Script fault)

abbrev pub as_scene : Result Script Fault → Result Seen SceneFault
as_scene (Ok script) = Ok (scene_of script)
as_scene (Err fault) = Err (record { line = fault.line; kind = kinds.Script fault.kind })
