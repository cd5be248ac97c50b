-- The options of the command line, as clap reads them.
use Rattle.std.specs.Prelude.{String, ◌≡◌, ◌⊎◌, ℕ, Bool, true, false, List, [], ◌∷◌, Some, bytes_eq, codes, map, slice_get, string_bytes, unwrap_or}
use Rattle.std.specs.Borrow.{Bor}
use Rattle.std.specs.List.{slice_split}
use Rattle.clap.specs.Lexer.{usize_max}
use Rattle.clap.specs.Words.{App, Rule, matches_of, new_app, new_rule, subcommand_of, with_rule, with_subcommand}
use Rattle.clap.specs.declared.builder.action.ArgAction.TheVariants.{Append, Set, SetTrue}
use Rattle.clap.specs.declared.builder.value_parser.ValueParser.TheVariants.{Names}
use Rattle.kob.specs.Options.{is_given, options_in, shared, task_found}
use Rattle.kob.specs.declared.policy_options.Options.{Options}
use Rattle.kob.specs.declared.options.Task.{Task}
use Rattle.kob.specs.declared.options.Task.TheVariants as task

-- an option without a value
abbrev pub flag : List ℕ → Rule
flag name = record (new_rule name) { long = Some name; action = Some SetTrue }

-- an option with a value
abbrev pub single : List ℕ → Rule
single name = record (new_rule name) { long = Some name; action = Some Set }

-- the words that belong to no option
abbrev pub others : List ℕ → Rule
others name = record (new_rule name) {
  action = Some Append;
  range = Some (record { start_inclusive = 0; end_inclusive = usize_max });
}

-- an option that may not stand with some other, or not without it
abbrev pub bound : Rule → Rule
bound rule = record rule { is_free = false }

-- an option whose value is one of names, which are stored
abbrev pub Stored : Type 0
Stored = Bor (List (Bor (List ℕ)))

abbrev pub one_of_names : Stored → List ℕ → Rule
one_of_names names name = record (single name) { parser = Some (Names names) }

-- the names of databases
abbrev pub Databases : Type 0
Databases = (names : Stored)
    × (map (λ name. name.now) names.now ≡ codes "postgresql" ∷ codes "mysql" ∷ [])

-- the name of a service
abbrev pub service : Rule
service = record (single (codes "service")) { value_names = 1 }

-- a command that takes files
abbrev pub files_app : List ℕ → App
files_app name = with_rule (new_app name) (others (codes "FILE"))

abbrev pub play_app : App
play_app =
    with_rule (with_rule (files_app (codes "play")) (flag (codes "trace"))) (bound (flag (codes "json")))

abbrev pub export_app : Databases → App
export_app databases = with_rule (with_rule (with_rule (files_app (codes "export"))
    (one_of_names databases.0 (codes "connect"))) (bound (one_of_names databases.0 (codes "table"))))
    (bound service)

abbrev pub subject : Rule
subject = record (new_rule (codes "SUBJECT")) { action = Some Set }

abbrev pub help_app : App
help_app = with_rule (new_app (codes "help")) subject

-- an option with a value that is given any number of times
abbrev pub repeated : List ℕ → Rule
repeated name = record (new_rule name) { long = Some name; action = Some Append; value_names = 1 }

abbrev pub with_rules : App → List Rule → App
with_rules app [] = app
with_rules app (rule ∷ rules) = with_rules (with_rule app rule) rules

abbrev pub policy_app : App
policy_app = with_rules (new_app (codes "policy")) (
    repeated (codes "policy") ∷ repeated (codes "questions") ∷ repeated (codes "topics")
    ∷ repeated (codes "log") ∷ bound (repeated (codes "before")) ∷ bound (repeated (codes "after"))
    ∷ repeated (codes "kafka") ∷ flag (codes "skip") ∷ bound (flag (codes "commands"))
    ∷ bound (flag (codes "json")) ∷ bound (flag (codes "csv")) ∷ others (codes "QUESTION") ∷ [])

-- a part has no word that is the program's name
abbrev pub part_app : App
part_app = record policy_app { top = record policy_app.top { no_binary_name = true } }

unfoldable pub options_by : List (List ℕ) → Options
options_by words = options_in (matches_of part_app words)

-- a part ends before each --next
abbrev pub is_next : List ℕ → Bool
is_next word = bytes_eq word (codes "--next")

abbrev pub parts_by : {A : Type 0} → List (String A) → List Options
parts_by words = shared (map (λ part. options_by (map string_bytes part))
    (slice_split (λ word. is_next (string_bytes word)) words))

abbrev pub version : Rule
version = record (flag (codes "version")) { short = Some 86 }

abbrev pub bare_app : App
bare_app = record (new_app (codes "kob")) {
  top = record (new_app (codes "kob")).top { disable_help_subcommand = true };
}

abbrev pub with_subcommands : App → List App → App
with_subcommands app [] = app
with_subcommands app (subcommand ∷ others) =
    with_subcommands (with_subcommand app subcommand.top) others

-- --version, and the subcommands
abbrev pub kob_app : Databases → App
kob_app databases = with_subcommands (with_rule bare_app version) (
    play_app ∷ export_app databases ∷ policy_app ∷ files_app (codes "topic") ∷ help_app ∷ [])

-- the word behind the program's name
abbrev pub asks_policy : List (List ℕ) → Bool
asks_policy words = bytes_eq (unwrap_or (slice_get words 1) []) (codes "policy")

abbrev pub task_read : Databases → List (List ℕ) → Task
task_read databases words = task_found (subcommand_of (kob_app databases) words)
    (is_given (matches_of (kob_app databases) words) (codes "version"))

-- only these may end with answers that differ
abbrev pub is_judged : Task → Bool
is_judged (task.Play form files) = true
is_judged (task.Export form named files) = false
is_judged task.Policy = true
is_judged (task.Topic files) = true
is_judged (task.Help page) = false
is_judged task.Version = false

-- The words ask for this task.
abbrev pub IsTaskOf : List (List ℕ) → Task → Type 0
IsTaskOf words asked = ((asks_policy words ≡ true) × (asked ≡ task.Policy))
    ⊎ ((asks_policy words ≡ false) × ((databases : Databases) × (asked ≡ task_read databases words)))

abbrev pub CanDiffer : List (List ℕ) → Type 0
CanDiffer words = (asked : Task) × IsTaskOf words asked × (is_judged asked ≡ true)
