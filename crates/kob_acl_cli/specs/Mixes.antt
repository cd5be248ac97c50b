-- Which options may be used together, and what has to be beside them.
use Rattle.std.specs.Prelude.{◌==◌, ◌&&◌, ◌||◌, ◌++◌, not, ℕ, Bool, true, false, List, [], ◌∷◌, length, nat_lt, count_by, codes, Option, Some, None}
use Rattle.std.specs.Str.{str_eq_ignore_ascii_case}
use Rattle.kob_acl_cli.specs.declared.args.CliArgs.{CliArgs}
use Rattle.kob_acl_cli.specs.declared.fault.CommandFault.{CommandFault}
use Rattle.kob_acl_cli.specs.declared.fault.CommandFault.TheVariants.{BadMix, NoResource, NoPrincipal}

-- what stands where an option is given
abbrev pub only_if : {A : Type 0} → Bool → List A → List A
only_if true items = items
only_if false items = []

abbrev pub is_given : List (List ℕ) → Bool
is_given texts = nat_lt 0 (length texts)

-- exactly one of --add, --remove and --list
abbrev pub has_one_action : CliArgs → Bool
has_one_action args = count_by (λ given. given) (args.add ∷ args.remove ∷ args.list ∷ []) == 1

-- --allow-principal or --deny-principal
abbrev pub has_holder : CliArgs → Bool
has_holder args = is_given args.allow_principals || is_given args.deny_principals

-- --allow-host or --deny-host
abbrev pub has_host : CliArgs → Bool
has_host args = is_given args.allow_hosts || is_given args.deny_hosts

-- --producer or --consumer
abbrev pub has_convenience : CliArgs → Bool
has_convenience args = args.producer || args.consumer

-- --topic, --group, --cluster or --transactional-id
abbrev pub has_resource : CliArgs → Bool
has_resource args =
    is_given args.topics || (is_given args.groups
    || (args.cluster || is_given args.transactional_ids))

-- --allow-host without --allow-principal
abbrev pub allows_host_alone : CliArgs → Bool
allows_host_alone args = is_given args.allow_hosts && not (is_given args.allow_principals)

-- --deny-host without --deny-principal
abbrev pub denies_host_alone : CliArgs → Bool
denies_host_alone args = is_given args.deny_hosts && not (is_given args.deny_principals)

-- --operation with --remove and no principal
abbrev pub removes_operation_of_nobody : CliArgs → Bool
removes_operation_of_nobody args =
    is_given args.operations && (args.remove && not (has_holder args))

-- the pattern types any and match
abbrev pub is_for_filters : Option (List ℕ) → Bool
is_for_filters None = false
is_for_filters (Some word) =
    str_eq_ignore_ascii_case word (codes "any") || str_eq_ignore_ascii_case word (codes "match")

-- any or match with --add
abbrev pub adds_for_filters : CliArgs → Bool
adds_for_filters args = args.add && is_for_filters args.pattern_type

-- --principal without --list
abbrev pub names_principal_unlisted : CliArgs → Bool
names_principal_unlisted args = is_given args.principals && not args.list

-- options that say what a binding holds
abbrev pub speaks_of_bindings : CliArgs → Bool
speaks_of_bindings args =
    has_holder args || (has_host args
    || (is_given args.operations || (has_convenience args || args.idempotent)))

-- --list with any of these
abbrev pub lists_with_binding : CliArgs → Bool
lists_with_binding args = args.list && speaks_of_bindings args

-- options for bindings other than those of a producer or a consumer
abbrev pub speaks_of_others : CliArgs → Bool
speaks_of_others args =
    is_given args.deny_principals || (is_given args.deny_hosts || (is_given args.operations
    || (args.cluster || is_given args.transactional_ids)))

-- --producer or --consumer with any of these
abbrev pub convenience_with_others : CliArgs → Bool
convenience_with_others args = has_convenience args && speaks_of_others args

-- --idempotent without --producer
abbrev pub idempotent_without_producer : CliArgs → Bool
idempotent_without_producer args = args.idempotent && not args.producer

-- --group with --producer alone
abbrev pub group_of_producer : CliArgs → Bool
group_of_producer args = is_given args.groups && (args.producer && not args.consumer)

abbrev pub is_bad_mix_of_holders : CliArgs → Bool
is_bad_mix_of_holders args =
    allows_host_alone args || (denies_host_alone args || removes_operation_of_nobody args)

abbrev pub is_bad_mix_of_action : CliArgs → Bool
is_bad_mix_of_action args =
    adds_for_filters args || (names_principal_unlisted args || lists_with_binding args)

abbrev pub is_bad_mix_of_convenience : CliArgs → Bool
is_bad_mix_of_convenience args =
    convenience_with_others args || (idempotent_without_producer args || group_of_producer args)

-- options that may not be used together
abbrev pub is_bad_mix : CliArgs → Bool
is_bad_mix args =
    is_bad_mix_of_holders args || (is_bad_mix_of_action args || is_bad_mix_of_convenience args)

-- --consumer without a topic or without a group
abbrev pub consumes_nothing : CliArgs → Bool
consumes_nothing args = args.consumer && not (is_given args.topics && is_given args.groups)

-- no resource for --add or --remove, no topic for --producer, no topic or group for --consumer
abbrev pub lacks_resource : CliArgs → Bool
lacks_resource args =
    ((args.add || args.remove) && not (has_resource args))
    || ((args.producer && not (is_given args.topics)) || consumes_nothing args)

-- --add, --producer or --consumer without a principal
abbrev pub lacks_principal : CliArgs → Bool
lacks_principal args = (args.add || has_convenience args) && not (has_holder args)

-- the refusals that apply to options whose words are valid, in their order
abbrev pub refusals : CliArgs → List CommandFault
refusals args =
    only_if (is_bad_mix args) (BadMix ∷ []) ++ only_if (lacks_resource args) (NoResource ∷ [])
    ++ only_if (lacks_principal args) (NoPrincipal ∷ [])
