-- How clap reads the words of a line.
use Rattle.std.specs.Prelude.{alloc_error, ◌≡◌, ℕ, Bool, true, false, List, [], ◌∷◌, fold, map, codes, unwrap_or, Option, Some, None, ◌++◌, flat_map}
use Rattle.std.specs.Borrow.{Bor}
use Rattle.clap.specs.Words.{App, Kinds, Row, Rule, all_of, fault_of, first_of, matches_of, new_app, new_rule, one_of, takes, with_rule}
use Rattle.clap.specs.declared.builder.action.ArgAction.{ArgAction}
use Rattle.clap.specs.declared.builder.action.ArgAction.TheVariants.{Append, Set, SetTrue}
use Rattle.clap.specs.declared.error.kind.ErrorKind.{ErrorKind}
use Rattle.clap.specs.declared.error.kind.ErrorKind.TheVariants.{OutOfMemory}
use Rattle.kob_acl_cli.specs.declared.fault.LineFault.{LineFault}
use Rattle.kob_acl_cli.specs.declared.fault.LineFault.TheVariants.{Memory, Usage}
use Rattle.kob_acl_cli.specs.declared.args.CliArgs.{CliArgs}
use Rattle.kob_names.specs.Binding.{Binding}
use Rattle.kob_words.specs.Words.{binding_text}

-- a line is refused as clap refuses it, of which out of memory is one kind
abbrev pub line_fault : ErrorKind → LineFault
line_fault OutOfMemory = Memory alloc_error
line_fault _ = Usage

-- the texts behind references
abbrev pub texts : List (Bor (List ℕ)) → List (List ℕ)
texts words = map (λ word. word.now) words

-- an option, whose name stands after two dashes
abbrev pub option : ArgAction → List ℕ → Rule
option action name = record (new_rule name) { long = Some name; action = Some action }

abbrev pub with_options : ArgAction → App → List (List ℕ) → App
with_options action app names = fold (λ grown name. with_rule grown (option action name)) app names

-- no word is the program's name, and --help is no option
abbrev pub bare_app : App
bare_app = record {
  top = record (new_app (codes "kafka-acls")).top {
    no_binary_name = true;
    disable_help_flag = true;
  };
  subs = [];
}

-- options with values that may be repeated
abbrev pub repeatable_options : List (List ℕ)
repeatable_options =
    codes "allow-principal" ∷ codes "deny-principal" ∷ codes "allow-host" ∷ codes "deny-host"
    ∷ codes "operation"
    ∷ codes "topic" ∷ codes "group" ∷ codes "transactional-id" ∷ codes "principal" ∷ []

-- options with a value that stand once
abbrev pub single_options : List (List ℕ)
single_options =
    codes "resource-pattern-type" ∷ codes "bootstrap-server" ∷ codes "command-config" ∷ []

abbrev pub flags : List (List ℕ)
flags = codes "add" ∷ codes "remove" ∷ codes "list" ∷ codes "cluster" ∷ codes "producer"
    ∷ codes "consumer"
    ∷ codes "idempotent" ∷ codes "force" ∷ []

-- the command whose words are read
abbrev pub line_app : App
line_app =
    with_options SetTrue (with_options Set
    (with_options Append bare_app repeatable_options) single_options) flags

-- what clap reads of a line for each option
unfoldable pub rows_of_line : List (List ℕ) → List Row
rows_of_line words = matches_of line_app words

-- clap takes the line
unfoldable pub is_taken : List (List ℕ) → Bool
is_taken words = takes line_app words

-- why clap refuses the line, where it does
unfoldable pub refusals : List (List ℕ) → Kinds
refusals words = fault_of line_app words

-- the values of an option, in order
abbrev pub values_of : List Row → List ℕ → List (List ℕ)
values_of rows name = unwrap_or (all_of name rows) []

-- a flag is clap's `true` or `false`, and false where clap has nothing of it
abbrev pub IsFlagBy : Option (List ℕ) → Bool → Type 0
IsFlagBy None flag = flag ≡ false
IsFlagBy (Some text) flag =
    (text ≡ codes "true" → flag ≡ true) × (text ≡ codes "false" → flag ≡ false)

abbrev pub IsFlag : List Row → List ℕ → Bool → Type 0
IsFlag rows name flag = IsFlagBy (one_of name rows) flag

-- the options with the texts that clap read for them
abbrev pub with_texts : List Row → CliArgs → CliArgs
with_texts rows args = record args {
  allow_principals = values_of rows (codes "allow-principal");
  deny_principals = values_of rows (codes "deny-principal");
  allow_hosts = values_of rows (codes "allow-host");
  deny_hosts = values_of rows (codes "deny-host");
  operations = values_of rows (codes "operation");
  topics = values_of rows (codes "topic");
  groups = values_of rows (codes "group");
  transactional_ids = values_of rows (codes "transactional-id");
  principals = values_of rows (codes "principal");
  pattern_type = first_of (codes "resource-pattern-type") rows;
}

-- each option has what clap read for it
pub record IsReadOf (rows : List Row) (args : CliArgs) : Type 0 where
  pub texts : args ≡ with_texts rows args
  pub add : IsFlag rows (codes "add") args.add
  pub remove : IsFlag rows (codes "remove") args.remove
  pub list : IsFlag rows (codes "list") args.list
  pub cluster : IsFlag rows (codes "cluster") args.cluster
  pub producer : IsFlag rows (codes "producer") args.producer
  pub consumer : IsFlag rows (codes "consumer") args.consumer
  pub idempotent : IsFlag rows (codes "idempotent") args.idempotent

-- How lists of bindings are printed.

-- a line of its own
abbrev pub binding_line : ℕ × Binding → List ℕ
binding_line (serial, binding) = binding_text serial binding ++ codes "\n"

abbrev pub list_text : List (ℕ × Binding) → List ℕ
list_text bindings = flat_map binding_line bindings
