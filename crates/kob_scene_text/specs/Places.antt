-- Which word of a line has the fault that its scene has.
use Rattle.std.specs.Prelude.{ℕ, nat_eq, Bool, true, false, not, is_none, ◌&&◌, ◌||◌, List, [], ◌∷◌, Option, Some, None, codes, drop, map, slice_get, unwrap_or, if◌then◌else◌}
use Rattle.std.specs.List.{list_any, position}
use Rattle.std.specs.Option.{option_map}
use Rattle.std.specs.Result.{result_err}
use Rattle.std.specs.Str.{bytes_eq}
use Rattle.kob_router.specs.declared.settings.RouteBy.TheVariants.{AggregateType}
use Rattle.kob_script.specs.Places.{fault_place as script_fault_place}
use Rattle.kob_script.specs.Script.{is_super, line_words}
use Rattle.kob_script.specs.Words.{Word, named_host, named_principal, rank, text_of}
use Rattle.kob_script.specs.declared.fault.FaultKind.{FaultKind}
use Rattle.kob_scene_text.specs.ConsumerForms.{consumer_form}
use Rattle.kob_scene_text.specs.Reading.{◌>>>◌, as_scripts, bad_line}
use Rattle.kob_scene_text.specs.Scenes.{is_request, is_variant_sending}
use Rattle.kob_scene_text.specs.ServiceForms.{service_form, service_step_form, tick_form}
use Rattle.kob_scene_text.specs.StepNames.{step_named}
use Rattle.kob_scene_text.specs.Steps.{head_of, id_of}
use Rattle.kob_scene_text.specs.Workers.{by_named, sending_first, start_named, is_name, max_of, partitions_of, place_of, route_of}
use Rattle.kob_scene_text.specs.declared.fault.SceneFaultKind.{SceneFaultKind}
use Rattle.kob_scene_text.specs.declared.fault.SceneFaultKind.TheVariants.{Script, UnknownWorker, BadWorkerName, NameTaken, BadPartitions, BadMax, BadRoute, BadId, NoLaw}
use Rattle.kob_scene_text.specs.declared.forms.Keyword.{Keyword}
use Rattle.kob_scene_text.specs.declared.forms.Keyword.TheVariants as keyword
use Rattle.kob_scene_text.specs.declared.forms.Part.{Part}
use Rattle.kob_scene_text.specs.declared.forms.Part.TheVariants.{One, After, OrEnd, Each}
use Rattle.kob_scene_text.specs.declared.forms.Slot.{Slot}
use Rattle.kob_scene_text.specs.declared.forms.Slot.TheVariants as slot
use Rattle.kob_scene_text.specs.declared.line.Head.{Head}
use Rattle.kob_scene_text.specs.declared.line.Head.TheVariants.{Setting, Service, Consumer, Journal, Law, Check, Expect, Of, Unknown, Request}
use Rattle.kob_scene_text.specs.declared.name.Worker.{Worker}
use Rattle.kob_scene_text.specs.declared.name.Worker.TheVariants as workers
use Rattle.kob_scene_text.specs.declared.scene.Sending.{Sending}
use Rattle.kob_scene_text.specs.declared.scene.Sending.TheVariants.{Proved}
use Rattle.kob_scene_text.specs.declared.step_names.StepName.{StepName}
use Rattle.kob_scene_text.specs.declared.step_names.StepName.TheVariants as steps

abbrev pub same_kind : SceneFaultKind → SceneFaultKind → Bool
same_kind (Script one) (Script other) = nat_eq (rank one) (rank other)
same_kind UnknownWorker UnknownWorker = true
same_kind BadWorkerName BadWorkerName = true
same_kind NameTaken NameTaken = true
same_kind BadPartitions BadPartitions = true
same_kind BadMax BadMax = true
same_kind BadRoute BadRoute = true
same_kind BadId BadId = true
same_kind NoLaw NoLaw = true
same_kind _ _ = false

-- a fault is of this kind
abbrev pub is_of : SceneFaultKind → Option SceneFaultKind → Bool
is_of kind None = false
is_of kind (Some fault) = same_kind fault kind

-- Names that lines before declare.

-- words declare a worker of this name by a keyword
abbrev pub are_of : List ℕ → List ℕ → List Word → Bool
are_of first name (one ∷ other ∷ words) =
    bytes_eq one.decoded first && bytes_eq other.decoded name
are_of first name (one ∷ []) = false
are_of first name [] = false

abbrev pub is_declared : List ℕ → List (List ℕ) → List ℕ → Bool
is_declared first lines name = list_any (λ line. are_of first name (line_words line)) lines

-- words begin with the name of a variant of a service
unfoldable pub names_variant : List Word → Bool
names_variant words = is_variant_sending (sending_first words).0

-- the word that begins what makes a consumer a variant
abbrev pub begins_variant : Option Word → Bool
begins_variant None = false
begins_variant (Some word) =
    bytes_eq word.decoded (codes "start") || bytes_eq word.decoded (codes "commits")
    || bytes_eq word.decoded (codes "no")

-- words declare a worker of this name that is a variant: a service that sends otherwise than the
-- proved router, or a consumer that begins at the end, or takes in otherwise than the proved one
abbrev pub are_of_variant : List ℕ → List Word → Bool
are_of_variant name words =
    (are_of (codes "service") name words && names_variant (drop 6 words))
    || (are_of (codes "consumer") name words && begins_variant (slice_get words 8))

abbrev pub is_variant : List (List ℕ) → List ℕ → Bool
is_variant lines name = list_any (λ line. are_of_variant name (line_words line)) lines

-- how a service of this name sends, where words declare one
unfoldable pub sending_of_words : List ℕ → List Word → Option Sending
sending_of_words name words =
    if are_of (codes "service") name words then Some (sending_first (drop 6 words)).0 else None

-- how the service of this name sends, by the first line that declares one
abbrev pub sending_in : List (List ℕ) → List ℕ → Sending
sending_in [] name = Proved
sending_in (line ∷ lines) name =
    unwrap_or (sending_of_words name (line_words line)) (sending_in lines name)

-- the kind of the worker of a name, whose place does not matter here
abbrev pub worker_in : List (List ℕ) → List ℕ → Option Worker
worker_in lines name =
    if is_declared (codes "service") lines name then Some (workers.Service 0)
    else (if is_declared (codes "consumer") lines name then Some (workers.Consumer 0) else None)

-- The forms of lines behind their first words.

abbrev pub keyword_text : Keyword → List ℕ
keyword_text keyword.Partitions = codes "partitions"
keyword_text keyword.Retries = codes "retries"
keyword_text keyword.New = codes "new"
keyword_text keyword.Deletes = codes "deletes"
keyword_text keyword.First = codes "first"
keyword_text keyword.Not = codes "not"
keyword_text keyword.Idempotent = codes "idempotent"
keyword_text keyword.Separate = codes "separate"
keyword_text keyword.Visible = codes "visible"
keyword_text keyword.Late = codes "late"
keyword_text keyword.Crash = codes "crash"
keyword_text keyword.By = codes "by"
keyword_text keyword.Replacement = codes "replacement"
keyword_text keyword.Placement = codes "placement"
keyword_text keyword.Group = codes "group"
keyword_text keyword.Max = codes "max"
keyword_text keyword.Start = codes "start"
keyword_text keyword.Commits = codes "commits"
keyword_text keyword.Before = codes "before"
keyword_text keyword.No = codes "no"
keyword_text keyword.Dedup = codes "dedup"
keyword_text keyword.Reads = codes "reads"
keyword_text keyword.Delivered = codes "delivered"
keyword_text keyword.All = codes "all"
keyword_text keyword.Lost = codes "lost"
keyword_text keyword.Order = codes "order"

abbrev pub setting_form : Word → List Part
setting_form first = if is_super first then One slot.Principal ∷ [] else One slot.Switch ∷ []

-- of expect, by the word behind the two names
abbrev pub expect_form_by : List ℕ → List Part
expect_form_by what =
    if bytes_eq what (codes "lost")
    then One slot.ServiceName ∷ One slot.ConsumerName ∷ One (slot.Keyword keyword.Lost)
    ∷ One slot.Id ∷ []
    else (if bytes_eq what (codes "delivered")
    then One slot.ServiceName ∷ One slot.ConsumerName ∷ One (slot.Keyword keyword.Delivered)
    ∷ One (slot.Keyword keyword.All) ∷ []
    else One slot.ServiceName ∷ One slot.ConsumerName ∷ One (slot.Keyword keyword.Order) ∷ [])

abbrev pub expect_form : List Word → List Part
expect_form (service ∷ consumer ∷ what ∷ words) = expect_form_by what.decoded
expect_form words = expect_form_by (codes "order")

-- of a consumer, behind the name of a step; None if consumers have no such step
abbrev pub consumer_step_form : StepName → Option (List Part)
consumer_step_form steps.Record = None
consumer_step_form steps.Tick = Some tick_form
consumer_step_form steps.Run = Some []
consumer_step_form steps.Restart = Some []
consumer_step_form steps.Sweep = None
consumer_step_form steps.Outbox = None
consumer_step_form steps.Business = None
consumer_step_form steps.Visible = None
consumer_step_form steps.Inbox = Some []

abbrev pub form_of_step : Sending → Worker → Option StepName → Option (List Part)
form_of_step sending worker None = None
form_of_step sending (workers.Service place) (Some step) = service_step_form sending step
form_of_step sending (workers.Consumer place) (Some step) = consumer_step_form step

-- the words behind a step's name, if the worker has such a step
abbrev pub step_form : Sending → Worker → List ℕ → Option (List Part)
step_form sending worker name = form_of_step sending worker (step_named name)

-- The faults of words.

abbrev pub fault_unless : Bool → SceneFaultKind → Option SceneFaultKind
fault_unless true kind = None
fault_unless false kind = Some kind

-- what scripts say of a word
abbrev pub script_fault : Option FaultKind → Option SceneFaultKind
script_fault fault = option_map Script fault

-- a name that is declared now, behind these lines
abbrev pub name_fault : List (List ℕ) → List ℕ → Option SceneFaultKind
name_fault lines name =
    if is_name name then fault_unless (is_none (worker_in lines name)) NameTaken
    else Some BadWorkerName

-- the name of a worker that a line before declares by a keyword
abbrev pub known_fault : List ℕ → List (List ℕ) → List ℕ → Option SceneFaultKind
known_fault first lines name = fault_unless (is_declared first lines name) UnknownWorker

-- and of which the laws speak
abbrev pub law_fault : List ℕ → List (List ℕ) → List ℕ → Option SceneFaultKind
law_fault first lines name =
    if is_declared first lines name then fault_unless (not (is_variant lines name)) NoLaw
    else Some UnknownWorker

-- a route with this replacement, and one with this placement
abbrev pub replacement_fault : Word → Option SceneFaultKind
replacement_fault word = result_err (as_scripts (text_of word) >>> λ text.
    route_of (record { by = AggregateType; replacement = text; placement = [] }))

abbrev pub placement_fault : Word → Option SceneFaultKind
placement_fault word = result_err (as_scripts (text_of word) >>> λ text. route_of (record {
  by = AggregateType;
  replacement = codes "outbox.event.${routedByValue}";
  placement = text;
}))

-- the fault that a word has in a slot, behind these lines
abbrev pub slot_fault : List (List ℕ) → Slot → Word → Option SceneFaultKind
slot_fault lines slot.NewName word = name_fault lines word.decoded
slot_fault lines slot.ServiceName word = known_fault (codes "service") lines word.decoded
slot_fault lines slot.ConsumerName word = known_fault (codes "consumer") lines word.decoded
slot_fault lines slot.LawService word = law_fault (codes "service") lines word.decoded
slot_fault lines slot.LawConsumer word = law_fault (codes "consumer") lines word.decoded
slot_fault lines slot.Text word = script_fault (result_err (text_of word))
slot_fault lines slot.Principal word = script_fault (result_err (named_principal word))
slot_fault lines slot.Host word = script_fault (result_err (named_host word))
slot_fault lines slot.Max word = result_err (max_of word)
slot_fault lines slot.Start word = script_fault (result_err (start_named word))
slot_fault lines slot.Column word = script_fault (result_err (by_named word))
slot_fault lines slot.Partition word = script_fault (result_err (place_of word))
slot_fault lines slot.Partitions word = result_err (partitions_of word)
slot_fault lines slot.Id word = result_err (id_of word)
slot_fault lines slot.Replacement word = replacement_fault word
slot_fault lines slot.Placement word = placement_fault word
slot_fault lines slot.Switch word =
    fault_unless (bytes_eq word.decoded (codes "on") || bytes_eq word.decoded (codes "off"))
    bad_line
slot_fault lines slot.Loss word =
    fault_unless (bytes_eq word.decoded (codes "lose-request")
    || bytes_eq word.decoded (codes "lose-reply")) bad_line
slot_fault lines (slot.Keyword which) word =
    fault_unless (bytes_eq word.decoded (keyword_text which)) bad_line

-- the faults of words in their order, by a form; a word too few or too many is one of the line
abbrev pub faults_in : List (List ℕ) → List Part → List Word → List (Option SceneFaultKind)
faults_in lines [] [] = []
faults_in lines [] (word ∷ words) = Some bad_line ∷ []
faults_in lines (One at ∷ parts) [] = Some bad_line ∷ []
faults_in lines (One at ∷ parts) (word ∷ words) =
    slot_fault lines at word ∷ faults_in lines parts words
faults_in lines (After which at ∷ parts) [] = faults_in lines parts []
faults_in lines (After which at ∷ parts) (first ∷ []) =
    if bytes_eq first.decoded (keyword_text which) then None ∷ Some bad_line ∷ []
    else faults_in lines parts (first ∷ [])
faults_in lines (After which at ∷ parts) (first ∷ word ∷ words) =
    if bytes_eq first.decoded (keyword_text which)
    then None ∷ slot_fault lines at word ∷ faults_in lines parts words
    else faults_in lines parts (first ∷ word ∷ words)
faults_in lines (OrEnd ∷ parts) [] = []
faults_in lines (OrEnd ∷ parts) (word ∷ words) = faults_in lines parts (word ∷ words)
faults_in lines (Each at ∷ parts) words = map (slot_fault lines at) words

-- the same from a step's name on; an unknown name is itself the fault
abbrev pub step_faults : Option (List Part) → List Word → List (Option SceneFaultKind)
step_faults None words = Some bad_line ∷ []
step_faults (Some parts) words = None ∷ faults_in [] parts words

abbrev pub worker_faults : Sending → Worker → List Word → List (Option SceneFaultKind)
worker_faults sending worker [] = Some bad_line ∷ []
worker_faults sending worker (name ∷ words) =
    step_faults (step_form sending worker name.decoded) words

-- the faults of the words of a line that begins so, behind these lines
abbrev pub word_faults : List (List ℕ) → Head → Word → List Word → List (Option SceneFaultKind)
word_faults lines Setting first rest = None ∷ faults_in lines (setting_form first) rest
word_faults lines Service first rest = None ∷ faults_in lines (service_form rest) rest
word_faults lines Consumer first rest = None ∷ faults_in lines (consumer_form rest) rest
word_faults lines Journal first rest = None ∷ faults_in lines [] rest
word_faults lines Law first rest =
    None ∷ faults_in lines (One slot.LawService ∷ One slot.LawConsumer ∷ []) rest
word_faults lines Check first rest =
    None ∷ faults_in lines (One slot.ServiceName ∷ One slot.ConsumerName ∷ []) rest
word_faults lines Expect first rest = None ∷ faults_in lines (expect_form rest) rest
word_faults lines (Of worker) first rest =
    None ∷ worker_faults (sending_in lines first.decoded) worker rest
word_faults lines Unknown first rest = Some UnknownWorker ∷ []
word_faults lines Request first rest = []

-- scripts say which word of a request it is
abbrev pub request_place : SceneFaultKind → List Word → Option ℕ
request_place (Script kind) words = script_fault_place kind words
request_place UnknownWorker words = None
request_place BadWorkerName words = None
request_place NameTaken words = None
request_place BadPartitions words = None
request_place BadMax words = None
request_place BadRoute words = None
request_place BadId words = None
request_place NoLaw words = None

abbrev pub place_by : List (List ℕ) → Head → SceneFaultKind → Word → List Word → Option ℕ
place_by lines head kind first rest =
    if is_request head then request_place kind (first ∷ rest)
    else position (is_of kind) (word_faults lines head first rest)

-- the place of the first word with a fault of this kind, from 0, in a line behind these lines
abbrev pub fault_place : List (List ℕ) → SceneFaultKind → List Word → Option ℕ
fault_place lines kind [] = None
fault_place lines kind (first ∷ rest) =
    place_by lines (head_of (worker_in lines first.decoded) first rest) kind first rest
