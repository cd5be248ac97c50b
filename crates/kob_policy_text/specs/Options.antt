-- What the options of `kafka-acls` say.
use Rattle.std.specs.Prelude.{◌≡◌, ◌++◌, ℕ, Bool, List, [], ◌∷◌, map, Option, Some, None, Result, Ok, Err, codes, if◌then◌else◌, ◌||◌, ◌&&◌, ◌==◌, false, flat_map, nat_eq, nat_lt, length, slice_get}
use Rattle.std.specs.List.{list_all, list_any, starts_with}
use Rattle.std.specs.Str.{bytes_eq}
use Rattle.kob_acl_cli.specs.declared.args.CliArgs.{CliArgs}
use Rattle.kob_acl_cli.specs.declared.commands.AclCommand.{AclCommand}
use Rattle.kob_acl_cli.specs.declared.commands.AclCommand.TheVariants.{Create}
use Rattle.kob_names.specs.Binding.{Binding}
use Rattle.kob_script.specs.CommandLines.{acl_commands}
use Rattle.kob_script.specs.Script.{MayAnswer}
use Rattle.kob_script.specs.Words.{◌>>=◌, principal_of}
use Rattle.kob_script.specs.declared.fault.FaultKind.{FaultKind}
use Rattle.kob_script.specs.declared.fault.FaultKind.TheVariants.{BadLine, Usage}
use Rattle.kob_policy_text.specs.Listing.{held_name, is_other_operation, other_operation, other_resource}
use Rattle.kob_policy_text.specs.declared.item.Item.{Item}
use Rattle.kob_policy_text.specs.declared.item.Item.TheVariants.{Rule}
use Rattle.kob_policy_text.specs.declared.options.Place.{Place}
use Rattle.kob_policy_text.specs.declared.options.Place.TheVariants.{Anywhere, BehindIgnored, BehindOther}

-- options that say where the cluster is and how to reach it
abbrev pub is_ignored : List ℕ → Bool
is_ignored word =
    bytes_eq word (codes "--authorizer-properties")
    || bytes_eq word (codes "--bootstrap-controller")
    || bytes_eq word (codes "--authorizer") || bytes_eq word (codes "--zk-tls-config-file")

abbrev pub is_ignored_whole : List ℕ → Bool
is_ignored_whole word =
    starts_with nat_eq word (codes "--authorizer-properties=")
    || starts_with nat_eq word (codes "--bootstrap-controller=")
    || starts_with nat_eq word (codes "--authorizer=")
    || starts_with nat_eq word (codes "--zk-tls-config-file=")

-- options that name a resource of a kind that is left out
abbrev pub is_other : List ℕ → Bool
is_other word =
    bytes_eq word (codes "--delegation-token") || bytes_eq word (codes "--user-principal")

abbrev pub is_other_whole : List ℕ → Bool
is_other_whole word =
    starts_with nat_eq word (codes "--delegation-token=")
    || starts_with nat_eq word (codes "--user-principal=")

-- in place of an option for such a resource is one for a topic with a name that none has
abbrev pub held_option : List ℕ → List (List ℕ)
held_option word =
    if is_ignored word || is_ignored_whole word then []
    else (if is_other word then codes "--topic" ∷ []
    else (if is_other_whole word then (codes "--topic=" ++ other_resource) ∷ [] else word ∷ []))

-- where the next word is
abbrev pub behind : List ℕ → Place
behind word =
    if is_ignored word then BehindIgnored
    else (if is_other word then BehindOther else Anywhere)

abbrev pub next_place : Place → List ℕ → Place
next_place Anywhere word = behind word
next_place BehindIgnored word = Anywhere
next_place BehindOther word = Anywhere

-- what is passed on to clap for a word at a place
abbrev pub held_at : Place → List ℕ → List (List ℕ)
held_at Anywhere word = held_option word
held_at BehindIgnored word = []
held_at BehindOther word = other_resource ∷ []

-- the words that are passed on to clap
unfoldable pub held_options : Place → List (List ℕ) → List (List ℕ)
held_options place [] = []
held_options place (word ∷ words) =
    held_at place word ++ held_options (next_place place word) words

-- principals of other kinds are left out one by one, and not the line
abbrev pub held_args : CliArgs → CliArgs
held_args args = record args {
  allow_principals = map held_name args.allow_principals;
  deny_principals = map held_name args.deny_principals;
}

abbrev pub rule_items : List Binding → List Item
rule_items drafts = map (λ (draft : Binding). Rule draft) drafts

-- the bindings that are added; a line that removes or lists is a fault
abbrev pub added_of : Option AclCommand → Result (List Binding) FaultKind
added_of (Some (Create drafts)) = Ok drafts
added_of _ = Err BadLine

-- the only command, where there is one and no more
abbrev pub only_command : List AclCommand → Option AclCommand
only_command commands = if length commands == 1 then slice_get commands 0 else None

abbrev pub drafts_from : CliArgs → Result (List Binding) FaultKind
drafts_from args = acl_commands (Some args) >>= λ made. added_of (only_command made)

abbrev pub added_from : CliArgs → Result (List Item) FaultKind
added_from args = drafts_from args >>= λ drafts. Ok (rule_items drafts)

-- `--transactional-id` beside `--producer` is as a line of its own, for Write and Describe
abbrev pub has_producer_ids : CliArgs → Bool
has_producer_ids args = args.producer && nat_lt 0 (length args.transactional_ids)

abbrev pub without_ids : CliArgs → CliArgs
without_ids args = record args { transactional_ids = [] }

abbrev pub ids_alone : CliArgs → CliArgs
ids_alone args = record args {
  producer = false;
  consumer = false;
  idempotent = false;
  topics = [];
  groups = [];
  operations = codes "Write" ∷ codes "Describe" ∷ [];
}

-- one line after the other; the first fault counts
abbrev pub then_added : Result (List Item) FaultKind → Result (List Item) FaultKind
    → Result (List Item) FaultKind
then_added first second = first >>= λ items. second >>= λ others. Ok (items ++ others)

-- Operations that are left out are left out one by one, and not the line: each is read as All, and
-- the bindings are for the principal that is in their place.

abbrev pub has_other_operation : CliArgs → Bool
has_other_operation args = list_any is_other_operation args.operations

abbrev pub has_others_alone : CliArgs → Bool
has_others_alone args = list_all is_other_operation args.operations

abbrev pub own_alone : List ℕ → List (List ℕ)
own_alone word = if is_other_operation word then [] else word ∷ []

abbrev pub all_if_other : List ℕ → List (List ℕ)
all_if_other word = if is_other_operation word then codes "All" ∷ [] else []

abbrev pub with_own_operations : CliArgs → CliArgs
with_own_operations args = record args { operations = flat_map own_alone args.operations }

abbrev pub with_other_operations : CliArgs → CliArgs
with_other_operations args = record args { operations = flat_map all_if_other args.operations }

unfoldable pub left_out_principal : Result (List ℕ) FaultKind
left_out_principal = principal_of other_operation

abbrev pub left_out_rule : List ℕ → Binding → Item
left_out_rule principal draft = Rule (record draft { principal = principal })

abbrev pub left_out_from : CliArgs → Result (List Item) FaultKind
left_out_from args = left_out_principal >>= λ principal. drafts_from args
    >>= λ drafts. Ok (map (left_out_rule principal) drafts)

abbrev pub added_on_both : CliArgs → Result (List Item) FaultKind
added_on_both args =
    then_added (added_from (with_own_operations args)) (left_out_from (with_other_operations args))

abbrev pub added_with_others : CliArgs → Result (List Item) FaultKind
added_with_others args =
    if has_others_alone args then left_out_from (with_other_operations args) else added_on_both args

abbrev pub added_by_operations : CliArgs → Result (List Item) FaultKind
added_by_operations args =
    if has_other_operation args then added_with_others args else added_from args

abbrev pub added_in_parts : CliArgs → Result (List Item) FaultKind
added_in_parts args =
    if has_producer_ids args
    then then_added (added_from (without_ids args)) (added_from (ids_alone args))
    else added_by_operations args

-- what options say by clap's answer to them
abbrev pub added_by : Option CliArgs → Result (List Item) FaultKind
added_by None = Err Usage
added_by (Some args) = added_in_parts (held_args args)

-- The words of the tool may say this, by what clap may answer.
unfoldable pub Adds : List (List ℕ) → Result (List Item) FaultKind → Type 0
Adds texts read =
    (answer : Option CliArgs) × MayAnswer (held_options Anywhere texts) answer
    × (added_by answer ≡ read)

abbrev pub SaysOptions : Result (List (List ℕ)) FaultKind → Result (List Item) FaultKind → Type 0
SaysOptions (Ok texts) read = Adds texts read
SaysOptions (Err kind) read = read ≡ Err kind
