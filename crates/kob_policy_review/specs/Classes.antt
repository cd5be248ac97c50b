-- Classes of questions: one principal or all that no binding names, one host or all others, one
-- operation, and one name or the names below a prefix that no longer prefix and no literal takes.
use Rattle.std.specs.Prelude.{Bool, false, List, [], ◌∷◌, ℕ, ◌++◌, ◌&&◌, ◌||◌, Option, Some, None, nat_eq, codes, if◌then◌else◌, fold, map}
use Rattle.std.specs.List.{list_any, starts_with}
use Rattle.kob_names.specs.Binding.{Binding, matches, reaches}
use Rattle.kob_names.specs.Same.{same_permission, same_resource, same_text}
use Rattle.kob_names.specs.declared.kinds.Operation.{Operation}
use Rattle.kob_names.specs.declared.kinds.Operation.TheVariants.{Read, Write, Create, Delete, Alter, Describe, ClusterAction, DescribeConfigs, AlterConfigs, IdempotentWrite}
use Rattle.kob_names.specs.declared.kinds.PatternKind.{PatternKind}
use Rattle.kob_names.specs.declared.kinds.PatternKind.TheVariants.{Literal, Prefixed}
use Rattle.kob_names.specs.declared.kinds.Permission.{Permission}
use Rattle.kob_names.specs.declared.kinds.ResourceKind.{ResourceKind}
use Rattle.kob_names.specs.declared.kinds.ResourceKind.TheVariants.{Topic, Group, Cluster, TransactionalId}
use Rattle.kob_names.specs.declared.pattern.Pattern.{Pattern}
use Rattle.kob_authorizer.specs.Decide.{Question, question_of}
use Rattle.kob_policy_review.specs.declared.class.Class.{Class}
use Rattle.kob_policy_review.specs.declared.class.Names.{Names}
use Rattle.kob_policy_review.specs.declared.class.Names.TheVariants.{Exactly, Below}
use Rattle.kob_policy_review.specs.declared.class.Target.{Target}

-- each operation that a request may ask for
abbrev pub operations : List Operation
operations =
    Read ∷ Write ∷ Create ∷ Delete ∷ Alter ∷ Describe ∷ ClusterAction ∷ DescribeConfigs
    ∷ AlterConfigs ∷ IdempotentWrite ∷ []

-- the representative of a class: where all others are meant, a text that ends with a mark
abbrev pub party_text : ℕ → Option (List ℕ) → List ℕ
party_text mark (Some text) = text
party_text mark None = mark ∷ []

abbrev pub names_text : ℕ → Names → List ℕ
names_text mark (Exactly name) = name
names_text mark (Below start) = start ++ mark ∷ []

abbrev pub representative : ℕ → Class → Question
representative mark class =
    question_of (party_text mark class.principal) (party_text mark class.host) class.operation
    class.target.resource (names_text mark class.target.names)

-- no literal but `*` takes the names below a prefix, and of the prefixes it and those
-- it begins with
abbrev pub matches_below : PatternKind → List ℕ → List ℕ → Bool
matches_below Literal pattern start = same_text pattern (codes "*")
matches_below Prefixed pattern start = starts_with nat_eq start pattern

-- the pattern matches the names
abbrev pub matches_names : Pattern → Names → Bool
matches_names pattern (Exactly name) = matches pattern name
matches_names pattern (Below start) = matches_below pattern.kind pattern.name start

-- the binding is for the kind of resource, and its pattern matches the names
abbrev pub is_on : Target → ℕ × Binding → Bool
is_on target entry =
    same_resource entry.1.resource target.resource
    && matches_names entry.1.pattern target.names

-- what is bound is for the party, or for all
abbrev pub covers_party : List ℕ → List ℕ → Option (List ℕ) → Bool
covers_party all bound (Some party) = same_text bound party || same_text bound all
covers_party all bound None = same_text bound all

-- the binding covers the principal, whatever the host
abbrev pub is_for : Option (List ℕ) → ℕ × Binding → Bool
is_for principal entry = covers_party (codes "User:*") entry.1.principal principal

-- the binding has this permission, covers the host and reaches the operation
abbrev pub is_met : Permission → Option (List ℕ) → Operation → ℕ × Binding → Bool
is_met permission host operation entry =
    same_permission entry.1.permission permission
    && (covers_party (codes "*") entry.1.host host
    && reaches permission entry.1.operation operation)

-- The classes that a set of rules distinguishes.

abbrev pub target : ResourceKind → Names → Target
target resource names = record { resource = resource; names = names }

-- all names of a kind that no pattern takes
abbrev pub others_on : ResourceKind → Target
others_on resource = target resource (Below [])

-- the cluster has one name
abbrev pub the_cluster : Target
the_cluster = target Cluster (Exactly (codes "kafka-cluster"))

-- the names that a pattern takes first: a literal `*` takes those that no other does
abbrev pub names_by : PatternKind → List ℕ → Names
names_by Literal name = if same_text name (codes "*") then Below [] else Exactly name
names_by Prefixed name = Below name

abbrev pub target_by : ResourceKind → Pattern → Target
target_by Topic pattern = target Topic (names_by pattern.kind pattern.name)
target_by Group pattern = target Group (names_by pattern.kind pattern.name)
target_by Cluster pattern = the_cluster
target_by TransactionalId pattern = target TransactionalId (names_by pattern.kind pattern.name)

abbrev pub target_of : ℕ × Binding → Target
target_of entry = target_by entry.1.resource entry.1.pattern

-- where no binding need be
abbrev pub open_targets : List Target
open_targets =
    others_on Topic ∷ others_on Group ∷ the_cluster ∷ others_on TransactionalId ∷ []

-- each name and each prefix of the entries, and what none of them takes
abbrev pub targets : List (ℕ × Binding) → List Target
targets entries = open_targets ++ map target_of entries

-- a party of its own for this text
abbrev pub is_party : List ℕ → Option (List ℕ) → Bool
is_party text (Some party) = same_text text party
is_party text None = false

abbrev pub with_party : List (Option (List ℕ)) → List ℕ → List (Option (List ℕ))
with_party parties text =
    if list_any (is_party text) parties then parties else (parties ++ Some text ∷ [])

-- all others, and each text once
abbrev pub parties : List (List ℕ) → List (Option (List ℕ))
parties texts = fold with_party (None ∷ []) texts

unfoldable pub with_principal : List (Option (List ℕ)) → ℕ × Binding → List (Option (List ℕ))
with_principal made entry = with_party made entry.1.principal

unfoldable pub with_host : List (Option (List ℕ)) → ℕ × Binding → List (Option (List ℕ))
with_host made entry = with_party made entry.1.host

-- the principals, and the hosts, that the entries name, each once, after all others
abbrev pub principals_named : List (ℕ × Binding) → List (Option (List ℕ))
principals_named entries = fold with_principal (None ∷ []) entries

abbrev pub hosts_named : List (ℕ × Binding) → List (Option (List ℕ))
hosts_named entries = fold with_host (None ∷ []) entries

abbrev pub same_names : Names → Names → Bool
same_names (Exactly one) (Exactly other) = same_text one other
same_names (Below one) (Below other) = same_text one other
same_names one other = false

abbrev pub same_target : Target → Target → Bool
same_target one other =
    same_resource one.resource other.resource && same_names one.names other.names

abbrev pub with_target : List Target → Target → List Target
with_target made target =
    if list_any (same_target target) made then made else (made ++ target ∷ [])

unfoldable pub with_target_of : List Target → ℕ × Binding → List Target
with_target_of made entry = with_target made (target_of entry)

-- the targets of the entries, each once
abbrev pub targets_named : List (ℕ × Binding) → List Target
targets_named entries = fold with_target_of open_targets entries
