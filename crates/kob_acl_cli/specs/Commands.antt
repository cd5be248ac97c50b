-- What the words of a line mean, and what it asks for: its commands, unless a word is misread.
use Rattle.std.specs.Prelude.{alloc_error, ℕ, List, [], ◌∷◌, filter_map, Option, Some, None, unwrap_or, codes, ◌≡◌, ◌⊎◌, Bool, ◌++◌, map, filter, is_some, is_none, Result, Ok, Err, if◌then◌else◌, flat_map, not, option_map}
use Rattle.kob_names.specs.declared.filter.FilterPattern.{FilterPattern}
use Rattle.kob_names.specs.declared.kinds.Operation.{Operation}
use Rattle.kob_names.specs.declared.kinds.Operation.TheVariants.{All, Read, Write, Create, Describe, IdempotentWrite}
use Rattle.kob_names.specs.declared.kinds.Permission.{Permission}
use Rattle.kob_names.specs.declared.kinds.Permission.TheVariants.{Allow, Deny}
use Rattle.kob_names.specs.declared.kinds.ResourceKind.{ResourceKind}
use Rattle.kob_names.specs.declared.kinds.ResourceKind.TheVariants.{Topic, Group, Cluster, TransactionalId}
use Rattle.kob_names.specs.declared.draft.Draft.{Draft}
use Rattle.kob_names.specs.declared.filter.BindingFilter.{BindingFilter}
use Rattle.kob_names.specs.declared.kinds.PatternKind.{PatternKind}
use Rattle.kob_names.specs.declared.kinds.PatternKind.TheVariants.{Literal, Prefixed}
use Rattle.kob_words.specs.Words.{operation_named, filter_pattern_named}
use Rattle.kob_acl_cli.specs.declared.args.CliArgs.{CliArgs}
use Rattle.kob_acl_cli.specs.declared.parts.Holders.{Holders}
use Rattle.kob_acl_cli.specs.declared.parts.Parts.{Parts}
use Rattle.std.specs.Option.{option_to_list}
use Rattle.kob_names.specs.TextRules.{host_fault, principal_fault}
use Rattle.kob_acl_cli.specs.declared.fault.CommandFault.{CommandFault}
use Rattle.kob_acl_cli.specs.declared.fault.CommandFault.TheVariants.{BadName, Memory, NoAction}
use Rattle.kob_acl_cli.specs.Mixes.{only_if, has_convenience, has_one_action, has_holder, refusals}
use Rattle.kob_acl_cli.specs.declared.target.Target.{Target}
use Rattle.kob_acl_cli.specs.declared.access.Access.{Access}
use Rattle.kob_acl_cli.specs.declared.rule.Rule.{Rule}
use Rattle.kob_acl_cli.specs.declared.commands.AclCommand.{AclCommand}
use Rattle.kob_names.specs.declared.filter.FilterPattern.TheVariants as filter
use Rattle.kob_acl_cli.specs.declared.commands.AclCommand.TheVariants as acl

-- a list, or one item where it is empty
abbrev pub or_default : {A : Type 0} → A → List A → List A
or_default item [] = item ∷ []
or_default item (first ∷ others) = first ∷ others

abbrev pub operations_named : List (List ℕ) → List Operation
operations_named words = filter_map operation_named words

-- without a word the pattern type is literal
abbrev pub pattern_type : Option (List ℕ) → FilterPattern
pattern_type None = filter.Literal
pattern_type (Some word) = unwrap_or (filter_pattern_named word) filter.Literal

-- without a host every host is meant
abbrev pub holders : Permission → List (List ℕ) → List (List ℕ) → Holders
holders permission principals hosts = record {
  permission = permission;
  principals = principals;
  hosts = or_default (codes "*") hosts;
}

-- without an operation every operation is meant
abbrev pub parts : CliArgs → Parts
parts args = record {
  allowed = holders Allow args.allow_principals args.allow_hosts;
  denied = holders Deny args.deny_principals args.deny_hosts;
  operations = or_default All (operations_named args.operations);
  principals = args.principals;
  pattern = pattern_type args.pattern_type;
}

-- whether a word is not read
abbrev pub is_no_principal : List ℕ → Bool
is_no_principal word = is_some (principal_fault word)

abbrev pub is_no_host : List ℕ → Bool
is_no_host word = is_some (host_fault word)

abbrev pub is_no_operation : List ℕ → Bool
is_no_operation word = is_none (operation_named word)

abbrev pub is_no_pattern_type : List ℕ → Bool
is_no_pattern_type word = is_none (filter_pattern_named word)

-- the words that are not read, in the order of their options
abbrev pub misread_words : CliArgs → List (List ℕ)
misread_words args =
    filter is_no_principal args.allow_principals ++ filter is_no_principal args.deny_principals
    ++ filter is_no_host args.allow_hosts ++ filter is_no_host args.deny_hosts
    ++ filter is_no_operation args.operations ++ filter is_no_principal args.principals
    ++ filter is_no_pattern_type (option_to_list args.pattern_type)

abbrev pub bad_names : List (List ℕ) → List CommandFault
bad_names words = map (λ word. BadName word) words

-- the fault is the first of those that stand, or lack of memory
abbrev pub IsFirstFault : List CommandFault → CommandFault → Type 0
IsFirstFault [] fault = fault ≡ Memory alloc_error
IsFirstFault (first ∷ others) fault = (fault ≡ first) ⊎ (fault ≡ Memory alloc_error)

-- The value was read and no word of it was misread, or the fault names the first such word.
abbrev pub Reads : {A : Type 0} → List (List ℕ) → A → Result A CommandFault → Type 0
Reads words value (Ok made) = (words ≡ []) × (made ≡ value)
Reads words value (Err fault) = IsFirstFault (bad_names words) fault

-- The resources that options name, the operations meant on each, and the rules for them.

abbrev pub target : ResourceKind → FilterPattern → List ℕ → Target
target kind pattern name = record { kind = kind; name = name; pattern = pattern }

-- the cluster has one name, whatever the pattern type
abbrev pub cluster : Target
cluster = target Cluster filter.Literal (codes "kafka-cluster")

abbrev pub targets_named : ResourceKind → FilterPattern → List (List ℕ) → List Target
targets_named kind pattern names = map (λ name. target kind pattern name) names

-- topics, groups, the cluster, transactional ids
abbrev pub targets : FilterPattern → CliArgs → List Target
targets pattern args =
    targets_named Topic pattern args.topics ++ targets_named Group pattern args.groups
    ++ only_if args.cluster (cluster ∷ [])
    ++ targets_named TransactionalId pattern args.transactional_ids

-- operations on a resource
abbrev pub access : List Operation → Target → Access
access operations target = record { target = target; operations = operations }

abbrev pub accesses_to : List Operation → List Target → List Access
accesses_to operations targets = map (λ target. access operations target) targets

-- --producer writes, describes and creates each topic, --consumer reads and describes it
abbrev pub topic_operations : CliArgs → List Operation
topic_operations args =
    only_if args.producer (Write ∷ Describe ∷ Create ∷ [])
    ++ only_if args.consumer (Read ∷ Describe ∷ [])

-- --consumer also reads each group; --idempotent comes last, with IdempotentWrite on the cluster
abbrev pub convenience_accesses : FilterPattern → CliArgs → List Access
convenience_accesses pattern args =
    accesses_to (topic_operations args) (targets_named Topic pattern args.topics)
    ++ only_if args.consumer (accesses_to (Read ∷ []) (targets_named Group pattern args.groups))
    ++ only_if args.idempotent (access (IdempotentWrite ∷ []) cluster ∷ [])

-- those of --producer and --consumer, or without them the operations given, on each resource
abbrev pub accesses : FilterPattern → List Operation → CliArgs → List Access
accesses pattern operations args =
    if has_convenience args then convenience_accesses pattern args
    else accesses_to operations (targets pattern args)

-- a permission of a principal on a host
abbrev pub rule : Permission → List ℕ → List ℕ → Target → Operation → Rule
rule permission principal host target operation = record {
  permission = permission;
  principal = principal;
  host = host;
  operation = operation;
  target = target;
}

-- for each operation
abbrev pub rules_on_host : Permission → List ℕ → Access → List ℕ → List Rule
rules_on_host permission principal access host =
    map (λ operation. rule permission principal host access.target operation) access.operations

-- for each host
abbrev pub rules_of_principal : Permission → List (List ℕ) → Access → List ℕ → List Rule
rules_of_principal permission hosts access principal =
    flat_map (λ host. rules_on_host permission principal access host) hosts

-- for each principal
abbrev pub rules_of : Holders → Access → List Rule
rules_of holders access =
    flat_map (λ principal. rules_of_principal holders.permission holders.hosts access principal)
    holders.principals

-- for each resource: allow, then deny
abbrev pub product : Holders → Holders → List Access → List Rule
product allowed denied accesses =
    flat_map (λ access. rules_of allowed access ++ rules_of denied access) accesses

-- the kind of a binding's pattern; the other pattern types are for filters alone
abbrev pub pattern_kind : FilterPattern → PatternKind
pattern_kind filter.Prefixed = Prefixed
pattern_kind filter.Literal = Literal
pattern_kind filter.Any = Literal
pattern_kind filter.Matching = Literal

-- a rule that is added
abbrev pub draft_of : Rule → Draft
draft_of rule = record {
  permission = rule.permission;
  principal = rule.principal;
  host = rule.host;
  operation = rule.operation;
  resource = rule.target.kind;
  pattern = record { kind = pattern_kind rule.target.pattern; name = rule.target.name };
}

-- a rule that is taken away: a filter with every part set
abbrev pub filter_of : Rule → BindingFilter
filter_of rule = record {
  resource = Some rule.target.kind;
  name = Some rule.target.name;
  pattern = rule.target.pattern;
  principal = Some rule.principal;
  host = Some rule.host;
  operation = Some rule.operation;
  permission = Some rule.permission;
}

-- What a line asks for: its commands where no fault stands, and else the first fault that stands.

-- the faults that stand, in their order
abbrev pub faults : CliArgs → List CommandFault
faults args =
    only_if (not (has_one_action args)) (NoAction ∷ [])
    ++ bad_names (misread_words args)
    ++ refusals args

-- every rule that the line writes
abbrev pub rules : Parts → CliArgs → List Rule
rules parts args = product parts.allowed parts.denied (accesses parts.pattern parts.operations args)

-- a filter of what speaks of a resource and of a principal, each of them any where it is not set
abbrev pub filter_on : Option Target → Option (List ℕ) → BindingFilter
filter_on target principal = record {
  resource = option_map (λ it. it.kind) target;
  name = option_map (λ it. it.name) target;
  pattern = unwrap_or (option_map (λ it. it.pattern) target) filter.Any;
  principal = principal;
  host = None;
  operation = None;
  permission = None;
}

abbrev pub removal : Rule → AclCommand
removal rule = acl.Delete (filter_of rule)

abbrev pub removal_on : Target → AclCommand
removal_on target = acl.Delete (filter_on (Some target) None)

abbrev pub listing : Option Target → Option (List ℕ) → AclCommand
listing target principal = acl.Describe (filter_on target principal)

-- each of these, or any where there is none
abbrev pub each_or_any : {A : Type 0} → List A → List (Option A)
each_or_any items = or_default None (map (λ item. Some item) items)

-- one request with every binding
abbrev pub creation : Parts → CliArgs → List AclCommand
creation parts args = acl.Create (map draft_of (rules parts args)) ∷ []

-- one request for each rule, or for each resource where no principal is given
abbrev pub removals : Parts → CliArgs → List AclCommand
removals parts args =
    if has_holder args then map removal (rules parts args) else map removal_on
    (targets parts.pattern args)

-- one request for each resource and each principal
abbrev pub listings_by : List (Option (List ℕ)) → List (Option Target) → List AclCommand
listings_by principals targets = flat_map (λ target. map (listing target) principals) targets

abbrev pub listings : Parts → CliArgs → List AclCommand
listings parts args =
    listings_by (each_or_any parts.principals) (each_or_any (targets parts.pattern args))

abbrev pub commands_by : Parts → CliArgs → List AclCommand
commands_by parts args =
    if args.add then creation parts args else
    (if args.remove then removals parts args else listings parts args)

-- what the line asks for, where no fault stands
abbrev pub commands : CliArgs → List AclCommand
commands args = commands_by (parts args) args
