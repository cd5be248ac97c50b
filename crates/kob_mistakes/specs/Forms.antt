-- The forms of lines of scenes, by the words that say what a line is.
use Rattle.std.specs.Prelude.{ℕ, List, [], ◌∷◌, Option, Some, None, codes, drop, find, nat_eq, unwrap_or, if◌then◌else◌}
use Rattle.std.specs.List.{starts_with}
use Rattle.std.specs.Option.{option_map, option_or}
use Rattle.std.specs.Str.{bytes_eq}
use Rattle.kob_mistakes.specs.Hints.{has}
use Rattle.kob_mistakes.specs.Lines.{word_at}
use Rattle.kob_mistakes.specs.declared.worker.WorkerKind.{WorkerKind}
use Rattle.kob_mistakes.specs.declared.worker.WorkerKind.TheVariants.{Service, Consumer}
use Rattle.kob_scene_text.specs.declared.fault.SceneFaultKind.{SceneFaultKind}
use Rattle.kob_scene_text.specs.declared.fault.SceneFaultKind.TheVariants.{Script, UnknownWorker, BadWorkerName, NameTaken, BadPartitions, BadMax, BadRoute, BadId, NoLaw}

-- names, each with the form of a line of that name
abbrev pub Forms : Type 0
Forms = List (List ℕ × List ℕ)

-- of commands, as questions whether they may be done
unfoldable pub request_forms : Forms
request_forms =
    (codes "create-topic", codes "may PRINCIPAL HOST create-topic TOPIC PARTITIONS")
    ∷ (codes "delete-topic", codes "may PRINCIPAL HOST delete-topic TOPIC")
    ∷ (codes "metadata", codes "may PRINCIPAL HOST metadata [TOPIC]")
    ∷ (
      codes "produce",
      codes "may PRINCIPAL HOST produce TOPIC PARTITION -|ID:EPOCH:BASE [KEY=]VALUE ..",
    )
    ∷ (codes "fetch", codes "may PRINCIPAL HOST fetch TOPIC PARTITION OFFSET MAX")
    ∷ (codes "list-offsets", codes "may PRINCIPAL HOST list-offsets TOPIC PARTITION -1|-2")
    ∷ (codes "delete-records", codes "may PRINCIPAL HOST delete-records TOPIC PARTITION OFFSET|-1")
    ∷ (codes "init-producer", codes "may PRINCIPAL HOST init-producer")
    ∷ (codes "commit", codes "may PRINCIPAL HOST commit GROUP TOPIC PARTITION OFFSET")
    ∷ (codes "committed", codes "may PRINCIPAL HOST committed GROUP TOPIC PARTITION")
    ∷ (codes "groups", codes "may PRINCIPAL HOST groups")
    ∷ (codes "delete-group", codes "may PRINCIPAL HOST delete-group GROUP")
    ∷ (
      codes "create-acl",
      codes "may PRINCIPAL HOST create-acl allow|deny PRINCIPAL HOST OPERATION RESOURCE literal|prefixed NAME",
    )
    ∷ (
      codes "describe-acls",
      codes "may PRINCIPAL HOST describe-acls RESOURCE NAME PATTERN PRINCIPAL HOST OPERATION PERMISSION, each or -",
    )
    ∷ (
      codes "delete-acls",
      codes "may PRINCIPAL HOST delete-acls RESOURCE NAME PATTERN PRINCIPAL HOST OPERATION PERMISSION, each or -",
    )
    ∷ (codes "acl", codes "may PRINCIPAL HOST acl --add|--remove|--list OPTION ..")
    ∷ []

-- of settings, declarations, and lines that print
unfoldable pub line_forms : Forms
line_forms =
    (codes "super", codes "super PRINCIPAL")
    ∷ (codes "everyone", codes "everyone on|off")
    ∷ (
      codes "service",
      codes "service NAME PRINCIPAL HOST partitions N [retries new|deletes first|not idempotent|separate|visible late] [by COLUMN] [replacement TEXT] [placement TEXT]",
    )
    ∷ (
      codes "consumer",
      codes "consumer NAME PRINCIPAL HOST group GROUP max N [start latest] [commits before|no dedup] [reads TOPIC:PARTITION ..]",
    )
    ∷ (codes "journal", codes "journal")
    ∷ (codes "law", codes "law SERVICE CONSUMER")
    ∷ (codes "check", codes "check SERVICE CONSUMER")
    ∷ (codes "expect", codes "expect SERVICE CONSUMER delivered all|lost ID|order")
    ∷ []

-- of steps of services
unfoldable pub service_forms : Forms
service_forms = (
  codes "record",
  codes "NAME record ID AGGREGATETYPE AGGREGATEID TYPE PAYLOAD KIND KEY STATE [crash|late]",
)
    ∷ (codes "tick", codes "NAME tick [lose-request|lose-reply]")
    ∷ (codes "run", codes "NAME run")
    ∷ (codes "restart", codes "NAME restart")
    ∷ (codes "sweep", codes "NAME sweep")
    ∷ (codes "outbox", codes "NAME outbox")
    ∷ (codes "business", codes "NAME business KIND KEY")
    ∷ (codes "visible", codes "NAME visible")
    ∷ []

-- of steps of consumers
unfoldable pub consumer_forms : Forms
consumer_forms =
    (codes "tick", codes "NAME tick [lose-request|lose-reply]")
    ∷ (codes "run", codes "NAME run")
    ∷ (codes "restart", codes "NAME restart")
    ∷ (codes "inbox", codes "NAME inbox")
    ∷ []

abbrev pub form_in : Forms → List ℕ → Option (List ℕ)
form_in forms word = option_map (λ form. form.1) (find (λ form. bytes_eq form.0 word) forms)

unfoldable pub request_form : List ℕ → Option (List ℕ)
request_form command = form_in request_forms command

-- of a worker whose kind is not known
abbrev pub form_of_step : List ℕ → Option (List ℕ)
form_of_step name = option_or (form_in service_forms name) (form_in consumer_forms name)

-- a request has the form of its question without the first word
abbrev pub without_may : List ℕ → List ℕ
without_may form = if starts_with nat_eq form (codes "may ") then drop 4 form else form

abbrev pub request_line_form : List ℕ → List ℕ
request_line_form command =
    unwrap_or (option_map without_may (request_form command)) (codes "PRINCIPAL HOST COMMAND ..")

abbrev pub step_line_form : List ℕ → List ℕ
step_line_form step =
    unwrap_or (form_of_step step) (codes "PRINCIPAL HOST COMMAND .. or NAME STEP ..")

-- of a line by its words: a request begins with a principal, a step with the name of a worker
abbrev pub request_or_step : List (List ℕ) → List ℕ
request_or_step words =
    if has 58 (word_at words 0) then request_line_form (word_at words 2)
    else step_line_form (word_at words 1)

-- of a line whose second word is no step of the worker that it begins with, if it has this kind
abbrev pub form_of : Option WorkerKind → List (List ℕ) → List ℕ
form_of (Some Service) words =
    codes "a step of a service: record, tick, run, restart, sweep, outbox or business; with visible late also visible"
form_of (Some Consumer) words = codes "a step of a consumer: tick, run, restart or inbox"
form_of None words = unwrap_or (form_in line_forms (word_at words 0)) (request_or_step words)

unfoldable pub law_form : List ℕ
law_form =
    codes "law SERVICE CONSUMER, of the proved ones: for a variant (retries new, deletes first, not idempotent, separate, visible late, start latest, commits before, no dedup) no law is proved; check and expect take it"

-- of a line with a fault of this kind
abbrev pub form_by : SceneFaultKind → Option WorkerKind → List (List ℕ) → List ℕ
form_by (Script kind) stepping words = form_of stepping words
form_by UnknownWorker stepping words = form_of stepping words
form_by BadWorkerName stepping words = form_of stepping words
form_by NameTaken stepping words = form_of stepping words
form_by BadPartitions stepping words = form_of stepping words
form_by BadMax stepping words = form_of stepping words
form_by BadRoute stepping words = form_of stepping words
form_by BadId stepping words = form_of stepping words
form_by NoLaw stepping words = law_form
