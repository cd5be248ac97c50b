-- The names among which a misspelt word is looked for.
use Rattle.std.specs.Prelude.{ℕ, ◌++◌, ◌==◌, ◌||◌, List, [], ◌∷◌, Option, Some, None, codes, map, slice_get, if◌then◌else◌}
use Rattle.std.specs.List.{flat_map}
use Rattle.std.specs.Option.{is_some}
use Rattle.kob_mistakes.specs.Forms.{Forms, consumer_forms, line_forms, request_forms, service_forms}
use Rattle.kob_mistakes.specs.Hints.{has}
use Rattle.kob_mistakes.specs.Lines.{as_text, word_at}
use Rattle.kob_mistakes.specs.Spelling.{nearest, unless_same}
use Rattle.kob_mistakes.specs.Workers.{declared_by}
use Rattle.kob_mistakes.specs.declared.worker.WorkerKind.{WorkerKind}
use Rattle.kob_mistakes.specs.declared.worker.WorkerKind.TheVariants.{Service, Consumer}
use Rattle.kob_scene_text.specs.declared.fault.SceneFaultKind.{SceneFaultKind}
use Rattle.kob_scene_text.specs.declared.fault.SceneFaultKind.TheVariants.{UnknownWorker}
use Rattle.kob_scene_text.specs.Places.{same_kind}
use Rattle.kob_script.specs.Words.{raw_words}

-- the words of bindings and of options of `acl`
unfoldable pub binding_words : List (List ℕ)
binding_words =
    codes "allow" ∷ codes "deny" ∷ codes "literal" ∷ codes "prefixed" ∷ codes "any"
    ∷ codes "match" ∷ codes "Topic" ∷ codes "Group" ∷ codes "Cluster" ∷ codes "TransactionalId"
    ∷ codes "All" ∷ codes "Read" ∷ codes "Write" ∷ codes "Create" ∷ codes "Delete"
    ∷ codes "Alter" ∷ codes "Describe" ∷ codes "ClusterAction" ∷ codes "DescribeConfigs"
    ∷ codes "AlterConfigs" ∷ codes "IdempotentWrite" ∷ codes "--add" ∷ codes "--remove"
    ∷ codes "--list" ∷ codes "--allow-principal" ∷ codes "--deny-principal"
    ∷ codes "--allow-host" ∷ codes "--deny-host" ∷ codes "--principal" ∷ codes "--operation"
    ∷ codes "--topic" ∷ codes "--group" ∷ codes "--cluster" ∷ codes "--transactional-id"
    ∷ codes "--resource-pattern-type" ∷ codes "--producer" ∷ codes "--consumer"
    ∷ codes "--idempotent" ∷ codes "--force" ∷ codes "--bootstrap-server"
    ∷ codes "--command-config" ∷ codes "create-topic" ∷ codes "delete-topic" ∷ codes "metadata"
    ∷ codes "produce" ∷ codes "fetch" ∷ codes "commit" ∷ codes "committed" ∷ codes "groups"
    ∷ codes "acl" ∷ []

-- the words of declarations and steps behind their first two
unfoldable pub part_words : List (List ℕ)
part_words =
    codes "partitions" ∷ codes "retries" ∷ codes "new" ∷ codes "deletes" ∷ codes "first"
    ∷ codes "not" ∷ codes "idempotent" ∷ codes "separate" ∷ codes "visible" ∷ codes "late"
    ∷ codes "crash" ∷ codes "by" ∷ codes "replacement" ∷ codes "placement" ∷ codes "group"
    ∷ codes "max" ∷ codes "start" ∷ codes "latest" ∷ codes "commits" ∷ codes "before"
    ∷ codes "no" ∷ codes "dedup" ∷ codes "reads" ∷ codes "lose-request" ∷ codes "lose-reply"
    ∷ codes "aggregatetype" ∷ codes "aggregateid" ∷ codes "on" ∷ codes "off" ∷ []

unfoldable pub names_of : Forms → List (List ℕ)
names_of forms = map (λ form. form.0) forms

-- behind a principal
abbrev pub request_names : ℕ → List (List ℕ)
request_names place = if place == 2 then names_of request_forms else binding_words

abbrev pub line_names : ℕ → List (List ℕ)
line_names place =
    if place == 0 then names_of line_forms
    else (if place == 1 then names_of service_forms ++ names_of consumer_forms else part_words)

-- the words that may stand at a place; a worker that has no such step has others
abbrev pub names_at : Option WorkerKind → List (List ℕ) → ℕ → List (List ℕ)
names_at (Some Service) words place = names_of service_forms
names_at (Some Consumer) words place = names_of consumer_forms
names_at None words place =
    if has 58 (word_at words 0) then request_names place else line_names place

abbrev pub text_of : Option (List ℕ) → Option (List ℕ)
text_of None = None
text_of (Some word) = as_text word

abbrev pub list_of : Option (List ℕ) → List (List ℕ)
list_of None = []
list_of (Some name) = name ∷ []

-- the name of the worker that words declare
abbrev pub name_declared : List (List ℕ) → List (List ℕ)
name_declared words =
    if is_some (declared_by (word_at words 0)) then list_of (text_of (slice_get words 1)) else []

abbrev pub name_on : List ℕ → List (List ℕ)
name_on line = name_declared (raw_words line)

-- of all workers that lines declare
abbrev pub worker_names : List (List ℕ) → List (List ℕ)
worker_names lines = flat_map name_on lines

-- a worker may stand at the first place, and where one is unknown
abbrev pub workers_at : List (List ℕ) → SceneFaultKind → ℕ → List (List ℕ)
workers_at lines kind place =
    if place == 0 || same_kind kind UnknownWorker then worker_names lines else []

abbrev pub words_at : Option WorkerKind → List (List ℕ) → SceneFaultKind → ℕ → List (List ℕ)
words_at stepping words kind place =
    if same_kind kind UnknownWorker then [] else names_at stepping words place

abbrev pub nearest_of : Option (List ℕ) → List (List ℕ) → Option (List ℕ)
nearest_of None names = None
nearest_of (Some word) names = unless_same (nearest word names) word

-- by the lines of a text
abbrev pub nearest_at : List (List ℕ) → Option WorkerKind → List (List ℕ) → SceneFaultKind → ℕ → Option (List ℕ)
nearest_at lines stepping words kind place = nearest_of (text_of (slice_get words place))
    (workers_at lines kind place ++ words_at stepping words kind place)
