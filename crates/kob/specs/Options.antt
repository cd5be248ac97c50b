-- What the words of the command line ask for.
use Rattle.std.specs.Prelude.{ℕ, Bool, true, false, ◌++◌, ◌&&◌, ◌||◌, ◌==◌, List, [], ◌∷◌, Option, Some, None, codes, drop, filter, find, if◌then◌else◌, length, map, nat_eq, nat_lt, not, unwrap_or}
use Rattle.std.specs.List.{list_any, starts_with}
use Rattle.std.specs.Str.{bytes_eq}
use Rattle.clap.specs.Words.{Row, all_of, first_of}
use Rattle.kob.specs.declared.connect.Database.{Database}
use Rattle.kob.specs.declared.connect.Database.TheVariants.{Mysql, Postgresql}
use Rattle.kob.specs.declared.options.ExportForm.{ExportForm}
use Rattle.kob.specs.declared.options.ExportForm.TheVariants.{Commands, Connect, Table}
use Rattle.kob.specs.declared.options.Task.{Task}
use Rattle.kob.specs.declared.options.Task.TheVariants as task
use Rattle.kob.specs.declared.policy_options.AnswerForm.{AnswerForm}
use Rattle.kob.specs.declared.policy_options.AnswerForm.TheVariants as answers
use Rattle.kob.specs.declared.policy_options.Meaning.{Meaning}
use Rattle.kob.specs.declared.policy_options.Meaning.TheVariants as meaning
use Rattle.kob.specs.declared.policy_options.Options.{Options}
use Rattle.kob.specs.declared.policy.Tables.{Tables}
use Rattle.kob.specs.declared.policy.Tables.TheVariants as tables
use Rattle.kob_policy_rows.specs.Columns.{is_table}
use Rattle.kob_policy_text.specs.declared.question.Query.{Query}
use Rattle.kob_policy_text.specs.declared.question.Question.{Question}
use Rattle.kob_scene_play.specs.declared.form.Form.{Form}
use Rattle.kob_scene_play.specs.declared.form.Form.TheVariants as form

-- the values that clap found of an option, in the order given
abbrev pub values_of : List Row → List ℕ → List (List ℕ)
values_of rows name = unwrap_or (all_of name rows) []

-- of a flag that is given clap has `true`
abbrev pub is_given : List Row → List ℕ → Bool
is_given rows name = bytes_eq (unwrap_or (first_of name rows) []) (codes "true")

-- by --json and --trace
abbrev pub form_by : Bool → Bool → Option Form
form_by true is_traced = Some form.Json
form_by false true = Some form.Trace
form_by false false = None

-- by --json and --csv
abbrev pub answer_form_by : Bool → Bool → AnswerForm
answer_form_by true is_csv = answers.Json
answer_form_by false true = answers.Csv
answer_form_by false false = answers.Words

abbrev pub database_named : List ℕ → Database
database_named name = if bytes_eq name (codes "mysql") then Mysql else Postgresql

-- by the names behind --connect and --table
abbrev pub export_form_by : Option (List ℕ) → Option (List ℕ) → ExportForm
export_form_by (Some name) table = Connect (database_named name)
export_form_by None (Some name) = Table (database_named name)
export_form_by None None = Commands

-- by what clap found of the options of play, export, topic and help
abbrev pub form_in : List Row → Option Form
form_in rows = form_by (is_given rows (codes "json")) (is_given rows (codes "trace"))

abbrev pub export_form_in : List Row → ExportForm
export_form_in rows =
    export_form_by (first_of (codes "connect") rows) (first_of (codes "table") rows)

abbrev pub files_in : List Row → List (List ℕ)
files_in rows = values_of rows (codes "FILE")

-- the task of a subcommand of this name
abbrev pub task_named : List ℕ → List Row → Task
task_named name rows =
    if bytes_eq name (codes "play") then task.Play (form_in rows) (files_in rows)
    else if bytes_eq name (codes "export")
    then task.Export (export_form_in rows) (first_of (codes "service") rows) (files_in rows)
    else if bytes_eq name (codes "policy") then task.Policy
    else if bytes_eq name (codes "topic") then task.Topic (files_in rows)
    else task.Help (first_of (codes "SUBJECT") rows)

-- by the subcommand, and whether --version is given
abbrev pub task_found : Option (List ℕ × List Row) → Bool → Task
task_found (Some (name, rows)) is_version = task_named name rows
task_found None true = task.Version
task_found None false = task.Help None

-- a question of one word that is no name of a list
abbrev pub is_alone : List ℕ → Bool
is_alone word =
    bytes_eq word (codes "unused") || bytes_eq word (codes "shadowed")
    || bytes_eq word (codes "removable") || bytes_eq word (codes "summary")

-- any other word of the command line names a list
abbrev pub is_question : List ℕ → Bool
is_question word = list_any (λ byte. byte == 32) word || is_alone word

-- `log ` and the name of a broker's log
abbrev pub is_log : List ℕ → Bool
is_log word = starts_with nat_eq word (codes "log ")

-- what a word is that belongs to no option
abbrev pub has_meaning : Meaning → List ℕ → Bool
has_meaning meaning.Log word = is_log word
has_meaning meaning.Question word = not (is_log word) && is_question word
has_meaning meaning.List word = not (is_log word) && not (is_question word)

abbrev pub name_in : List ℕ → List ℕ
name_in word = if is_log word then drop 4 word else word

-- the words of a meaning, of a log its name
abbrev pub words_of : Meaning → List (List ℕ) → List (List ℕ)
words_of meaning words = map name_in (filter (has_meaning meaning) words)

abbrev pub answer_form_in : List Row → AnswerForm
answer_form_in rows = answer_form_by (is_given rows (codes "json")) (is_given rows (codes "csv"))

-- the options of a part, by what clap found of it
abbrev pub options_in : List Row → Options
options_in rows = record {
  policy = values_of rows (codes "policy") ++ words_of meaning.List (values_of rows (codes "QUESTION"));
  questions = values_of rows (codes "questions");
  topics = values_of rows (codes "topics");
  before = values_of rows (codes "before");
  after = values_of rows (codes "after");
  logs = values_of rows (codes "log") ++ words_of meaning.Log (values_of rows (codes "QUESTION"));
  words = words_of meaning.Question (values_of rows (codes "QUESTION"));
  kafka = values_of rows (codes "kafka");
  skip = is_given rows (codes "skip");
  commands = is_given rows (codes "commands");
  form = answer_form_in rows;
}

abbrev pub is_asked : AnswerForm → Bool
is_asked answers.Words = false
is_asked answers.Json = true
is_asked answers.Csv = true

abbrev pub with_form : Option AnswerForm → Options → Options
with_form None options = options
with_form (Some asked) options = record options { form = asked }

-- one form counts for all parts: the first that is asked for
abbrev pub shared : List Options → List Options
shared parts = map (with_form (find is_asked (map (λ part. part.form) parts))) parts

-- no answer is expected of the commands that lead from one list to another
abbrev pub can_differ_by : Options → Bool
can_differ_by options = not (options.commands && nat_lt 0 (length options.before))

abbrev pub table_asked : Question → Tables
table_asked question = if is_table question then tables.One else tables.Not

-- beside --csv, with two lists or with one
abbrev pub tables_asked : List Query → Bool → Tables
tables_asked [] true = tables.One
tables_asked [] false = tables.Several
tables_asked (query ∷ []) false = table_asked query.question
tables_asked (query ∷ []) true = tables.Several
tables_asked (query ∷ other ∷ queries) is_compared = tables.Several
