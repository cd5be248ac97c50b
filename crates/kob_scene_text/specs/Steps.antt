-- Lines that are a step of a worker, and steps as they are seen.
use Rattle.std.specs.Prelude.{ℕ, Bool, ◌&&◌, List, [], ◌∷◌, Option, Some, None, Result, Ok, Err, codes, if◌then◌else◌, string_bytes, false, true, ◌==◌}
use Rattle.std.specs.Str.{bytes_eq}
use Rattle.uuid.specs.Text.{parsed}
use Rattle.kob_outbox.specs.Contents.{Event, Key, id_text, key_of, stored_event}
use Rattle.kob_outbox.specs.declared.change.Change.{Change}
use Rattle.kob_script.specs.declared.fault.FaultKind.{FaultKind}
use Rattle.kob_script.specs.declared.fault.FaultKind.TheVariants.{BadLine}
use Rattle.kob_script.specs.Words.{◌>>=◌, text_of, Word}
use Rattle.kob_scene_text.specs.declared.fault.SceneFaultKind.{SceneFaultKind}
use Rattle.kob_scene_text.specs.declared.fault.SceneFaultKind.TheVariants.{BadId}
use Rattle.kob_scene_text.specs.declared.scene.ConsumerStep.{ConsumerStep}
use Rattle.kob_scene_text.specs.declared.scene.Expected.{Expected}
use Rattle.kob_scene_text.specs.declared.scene.Expected.TheVariants as expectations
use Rattle.kob_router.specs.declared.line.Loss.{Loss}
use Rattle.kob_scene_text.specs.declared.scene.Recording.{Recording}
use Rattle.kob_scene_text.specs.declared.scene.Recording.TheVariants.{Whole, Crash, Late}
use Rattle.kob_scene_text.specs.declared.scene.Sending.{Sending}
use Rattle.kob_scene_text.specs.declared.scene.Sending.TheVariants.{Proved, RetriesNew, DeletesFirst, NotIdempotent, Separate, VisibleLate}
use Rattle.kob_scene_text.specs.declared.scene.ServiceStep.{ServiceStep}
use Rattle.kob_scene_text.specs.Reading.{◌>>>◌, as_scripts, bad_line}
use Rattle.std.specs.List.{list_any}
use Rattle.std.specs.Option.{is_some}
use Rattle.kob_script.specs.Script.{is_setting}
use Rattle.kob_scene_text.specs.declared.name.Worker.{Worker}
use Rattle.kob_scene_text.specs.declared.line.Head.{Head}
use Rattle.kob_scene_text.specs.declared.line.Head.TheVariants.{Setting, Service, Consumer, Journal, Law, Check, Expect, Of, Unknown, Request}
use Rattle.kob_scene_text.specs.declared.scene.ConsumerStep.TheVariants as consumer_steps
use Rattle.kob_router.specs.declared.line.Loss.TheVariants as losses
use Rattle.kob_scene_text.specs.declared.scene.ServiceStep.TheVariants as service_steps
use Rattle.kob_scene_text.specs.declared.step_names.StepName.{StepName}
use Rattle.kob_scene_text.specs.declared.step_names.StepName.TheVariants as steps
use Rattle.kob_scene_text.specs.StepNames.{step_named}

-- a business row: its key and its state
abbrev pub Written : Type 0
Written = Key × List ℕ

abbrev pub written : Change → Written
written change = (key_of change, string_bytes change.state)

-- a step of a service, a record by the texts that it writes; its event has no number yet
pub data ServiceTold : Type 0 where
  Recorded : Written → Event → Recording → ServiceTold
  Plain : ServiceStep → ServiceTold

abbrev pub service_told : ServiceStep → ServiceTold
service_told (service_steps.Record change event recording) =
    Recorded (written change) (stored_event 0 event) recording
service_told (service_steps.Tick lost) = Plain (service_steps.Tick lost)
service_told service_steps.Run = Plain service_steps.Run
service_told service_steps.Restart = Plain service_steps.Restart
service_told service_steps.Sweep = Plain service_steps.Sweep
service_told service_steps.Outbox = Plain service_steps.Outbox
service_told (service_steps.Business kind key) = Plain (service_steps.Business kind key)
service_told service_steps.Visible = Plain service_steps.Visible

-- [lose-request|lose-reply]
abbrev pub loss_of : List Word → Result Loss FaultKind
loss_of [] = Ok losses.None
loss_of (word ∷ []) =
    if bytes_eq word.decoded (codes "lose-request") then Ok losses.BeforeServe
    else (if bytes_eq word.decoded (codes "lose-reply") then Ok losses.AfterServe else Err BadLine)
loss_of (word ∷ other ∷ words) = Err BadLine

-- a UUID in one of its forms
abbrev pub id_in : Option (List ℕ) → Result (List ℕ) SceneFaultKind
id_in None = Err BadId
id_in (Some id) = Ok id

abbrev pub id_of : Word → Result (List ℕ) SceneFaultKind
id_of word = as_scripts (text_of word) >>> λ text. id_in (parsed text)

-- KIND KEY STATE
abbrev pub written_by : Word → Word → Word → Result Written FaultKind
written_by kind key state =
    text_of kind >>= λ kind. text_of key >>= λ key. text_of state >>= λ state.
    Ok ((kind, key), state)

-- `crash` is a word of a service with `separate`, and `late` one of a service with `visible late`
abbrev pub recording_named : Sending → List ℕ → Result Recording FaultKind
recording_named Proved word = Err BadLine
recording_named RetriesNew word = Err BadLine
recording_named DeletesFirst word = Err BadLine
recording_named NotIdempotent word = Err BadLine
recording_named Separate word = if bytes_eq word (codes "crash") then Ok Crash else Err BadLine
recording_named VisibleLate word = if bytes_eq word (codes "late") then Ok Late else Err BadLine

-- how an event is recorded, by the words behind its change
abbrev pub recording_of : Sending → List Word → Result Recording FaultKind
recording_of sending [] = Ok Whole
recording_of sending (word ∷ []) = recording_named sending word.decoded
recording_of sending (word ∷ other ∷ words) = Err BadLine

-- KIND KEY STATE [crash|late]
abbrev pub change_of : Sending → List Word → Result (Written × Recording) FaultKind
change_of sending (kind ∷ key ∷ state ∷ rest) =
    recording_of sending rest >>= λ recording. written_by kind key state
    >>= λ change. Ok (change, recording)
change_of sending (kind ∷ key ∷ []) = Err BadLine
change_of sending (kind ∷ []) = Err BadLine
change_of sending [] = Err BadLine

-- AGGREGATETYPE AGGREGATEID TYPE PAYLOAD
abbrev pub event_of : List ℕ → Word → Word → Word → Word → Result Event FaultKind
event_of id aggregate_type aggregate_id event_type payload =
    text_of aggregate_type >>= λ aggregate_type. text_of aggregate_id >>= λ aggregate_id.
    text_of event_type >>= λ event_type. text_of payload >>= λ payload. Ok (record {
      seq = 0;
      id = id_text id;
      aggregate_type = aggregate_type;
      aggregate_id = aggregate_id;
      event_type = event_type;
      payload = payload;
    })

abbrev pub record_with : Sending → Word → Word → Word → Word → Word → List Word
    → Result ServiceTold SceneFaultKind
record_with sending id aggregate_type aggregate_id event_type payload change =
    id_of id >>> λ id. as_scripts (event_of id aggregate_type aggregate_id event_type payload)
    >>> λ event. as_scripts (change_of sending change)
    >>> λ change. Ok (Recorded change.0 event change.1)

-- ID AGGREGATETYPE AGGREGATEID TYPE PAYLOAD KIND KEY STATE [crash|late]
abbrev pub record_of : Sending → List Word → Result ServiceTold SceneFaultKind
record_of sending (id ∷ aggregate_type ∷ aggregate_id ∷ event_type ∷ payload ∷ change) =
    record_with sending id aggregate_type aggregate_id event_type payload change
record_of sending _ = Err bad_line

-- KIND KEY
abbrev pub business_of : List Word → Result ServiceTold FaultKind
business_of (kind ∷ key ∷ []) =
    text_of kind >>= λ kind. text_of key >>= λ key. Ok (Plain (service_steps.Business kind key))
business_of (kind ∷ key ∷ word ∷ words) = Err BadLine
business_of (kind ∷ []) = Err BadLine
business_of [] = Err BadLine

-- a service with `visible late` has hidden rows, and the step `visible`
abbrev pub hides_rows : Sending → Bool
hides_rows Proved = false
hides_rows RetriesNew = false
hides_rows DeletesFirst = false
hides_rows NotIdempotent = false
hides_rows Separate = false
hides_rows VisibleLate = true

-- a step that its name alone makes
abbrev pub alone : {A : Type 0} → A → List Word → Result A FaultKind
alone step [] = Ok step
alone step (word ∷ words) = Err BadLine

abbrev pub visible_of : Bool → List Word → Result ServiceTold FaultKind
visible_of true words = alone (Plain service_steps.Visible) words
visible_of false words = Err BadLine

-- a step of a service that sends so, by the words behind its name
abbrev pub service_line : Sending → StepName → List Word → Result ServiceTold SceneFaultKind
service_line sending steps.Record words = record_of sending words
service_line sending steps.Tick words =
    as_scripts (loss_of words >>= λ loss. Ok (Plain (service_steps.Tick loss)))
service_line sending steps.Run words = as_scripts (alone (Plain service_steps.Run) words)
service_line sending steps.Restart words = as_scripts (alone (Plain service_steps.Restart) words)
service_line sending steps.Sweep words = as_scripts (alone (Plain service_steps.Sweep) words)
service_line sending steps.Outbox words = as_scripts (alone (Plain service_steps.Outbox) words)
service_line sending steps.Business words = as_scripts (business_of words)
service_line sending steps.Visible words = as_scripts (visible_of (hides_rows sending) words)
service_line sending steps.Inbox words = Err bad_line

abbrev pub service_line_by : Sending → Option StepName → List Word
    → Result ServiceTold SceneFaultKind
service_line_by sending None words = Err bad_line
service_line_by sending (Some step) words = service_line sending step words

-- the same, by its words
abbrev pub service_step_of : Sending → List Word → Result ServiceTold SceneFaultKind
service_step_of sending [] = Err bad_line
service_step_of sending (name ∷ words) =
    service_line_by sending (step_named name.decoded) words

-- a step of a consumer, by the words behind its name
abbrev pub consumer_line : StepName → List Word → Result ConsumerStep FaultKind
consumer_line steps.Record words = Err BadLine
consumer_line steps.Tick words = loss_of words >>= λ loss. Ok (consumer_steps.Tick loss)
consumer_line steps.Run words = alone consumer_steps.Run words
consumer_line steps.Restart words = alone consumer_steps.Restart words
consumer_line steps.Sweep words = Err BadLine
consumer_line steps.Outbox words = Err BadLine
consumer_line steps.Business words = Err BadLine
consumer_line steps.Visible words = Err BadLine
consumer_line steps.Inbox words = alone consumer_steps.Inbox words

abbrev pub consumer_line_by : Option StepName → List Word → Result ConsumerStep FaultKind
consumer_line_by None words = Err BadLine
consumer_line_by (Some step) words = consumer_line step words

-- the same, by its words
abbrev pub consumer_step_of : List Word → Result ConsumerStep FaultKind
consumer_step_of [] = Err BadLine
consumer_step_of (name ∷ words) = consumer_line_by (step_named name.decoded) words

-- lost ID, or delivered all
abbrev pub expected_by : List ℕ → Word → Result Expected SceneFaultKind
expected_by first second =
    if bytes_eq first (codes "lost") then (id_of second >>> λ id. Ok (expectations.Lost id))
    else (if bytes_eq first (codes "delivered") && bytes_eq second.decoded (codes "all")
    then Ok expectations.Delivered else Err bad_line)

-- what is expected: delivered all, lost ID, or order
abbrev pub expected_of : List Word → Result Expected SceneFaultKind
expected_of (word ∷ []) =
    if bytes_eq word.decoded (codes "order") then Ok expectations.Order else Err bad_line
expected_of (first ∷ second ∷ []) = expected_by first.decoded second
expected_of (first ∷ second ∷ word ∷ words) = Err bad_line
expected_of [] = Err bad_line

-- What a line begins with.

-- the second word begins a step
abbrev pub asks_step : List Word → Bool
asks_step [] = false
asks_step (second ∷ words) = is_some (step_named second.decoded)

-- A declared worker's line is a step. Where none has the name, the line asks for a step of an
-- unknown worker if it has a step's word, and else is a request, whose faults are those of scripts.
abbrev pub head_by : Option Worker → List Word → Head
head_by (Some worker) rest = Of worker
head_by None rest = if asks_step rest then Unknown else Request

-- what a line begins with, whose first word is no setting, where a worker may have that name; a
-- first word with a colon is a principal
abbrev pub head_by_word : Option Worker → List ℕ → List Word → Head
head_by_word worker name rest =
    if bytes_eq name (codes "service") then Service
    else (if bytes_eq name (codes "consumer") then Consumer
    else (if bytes_eq name (codes "journal") then Journal
    else (if bytes_eq name (codes "law") then Law
    else (if bytes_eq name (codes "check") then Check
    else (if bytes_eq name (codes "expect") then Expect
    else (if list_any (λ byte. byte == 58) name then Request else head_by worker rest))))))

abbrev pub head_of : Option Worker → Word → List Word → Head
head_of worker first rest =
    if is_setting first then Setting else head_by_word worker first.decoded rest
