-- Bindings, as `kafka-acls.sh` adds them.
use Rattle.std.specs.Prelude.{ℕ, Bool, true, false, not, ◌&&◌, ◌||◌, List, [], ◌++◌, bytes_eq, codes, if◌then◌else◌}
use Rattle.kob_names.specs.declared.draft.Draft.{Draft}
use Rattle.kob_names.specs.declared.kinds.Operation.{Operation}
use Rattle.kob_names.specs.declared.kinds.Operation.TheVariants.{All, ClusterAction, Delete, Describe, IdempotentWrite, Read, Write}
use Rattle.kob_names.specs.declared.kinds.PatternKind.{PatternKind}
use Rattle.kob_names.specs.declared.kinds.PatternKind.TheVariants.{Literal, Prefixed}
use Rattle.kob_names.specs.declared.kinds.Permission.{Permission}
use Rattle.kob_names.specs.declared.kinds.Permission.TheVariants.{Allow, Deny}
use Rattle.kob_names.specs.declared.kinds.ResourceKind.{ResourceKind}
use Rattle.kob_names.specs.declared.kinds.ResourceKind.TheVariants.{Topic, Group, Cluster, TransactionalId}
use Rattle.kob_names.specs.declared.pattern.Pattern.{Pattern}
use Rattle.kob_names.specs.Same.{same_operation, same_pattern_kind, same_resource}
use Rattle.kob_words.specs.Words.{operation_name}
use Rattle.kob_scene_export.specs.Plain.{comment_unless, is_line, word_text}

abbrev pub principal_option : Permission → List ℕ
principal_option Allow = codes " --allow-principal="
principal_option Deny = codes " --deny-principal="

abbrev pub host_option : Permission → List ℕ
host_option Allow = codes " --allow-host="
host_option Deny = codes " --deny-host="

-- from any host where no option names one
abbrev pub host_text : Bool → Permission → List ℕ → List ℕ
host_text written permission host =
    if bytes_eq host (codes "*") then [] else host_option permission ++ word_text written host

-- who may, or may not, do what
abbrev pub grant_text : Bool → Draft → List ℕ
grant_text written d =
    principal_option d.permission ++ word_text written d.principal
    ++ host_text written d.permission d.host
    ++ codes " --operation=" ++ operation_name d.operation

abbrev pub pattern_text : PatternKind → List ℕ
pattern_text Literal = codes ""
pattern_text Prefixed = codes " --resource-pattern-type=prefixed"

abbrev pub named_text : Bool → List ℕ → Pattern → List ℕ
named_text written option pattern =
    option ++ word_text written pattern.name ++ pattern_text pattern.kind

-- on what; the cluster has one name
abbrev pub target_text : Bool → ResourceKind → Pattern → List ℕ
target_text written Topic pattern = named_text written (codes " --topic=") pattern
target_text written Group pattern = named_text written (codes " --group=") pattern
target_text written TransactionalId pattern =
    named_text written (codes " --transactional-id=") pattern
target_text written Cluster pattern = codes " --cluster"

-- which operations `kafka-acls.sh` takes for a kind of resource
abbrev pub is_taken : ResourceKind → Operation → Bool
is_taken Topic ClusterAction = false
is_taken Topic IdempotentWrite = false
is_taken Topic operation = true
is_taken Group Read = true
is_taken Group Describe = true
is_taken Group Delete = true
is_taken Group All = true
is_taken Group operation = false
is_taken Cluster Read = false
is_taken Cluster Write = false
is_taken Cluster Delete = false
is_taken Cluster operation = true
is_taken TransactionalId Write = true
is_taken TransactionalId Describe = true
is_taken TransactionalId All = true
is_taken TransactionalId operation = false

-- the command line can write it, in one line; a pattern of the cluster is literal
abbrev pub is_written : Draft → Bool
is_written d =
    is_line d.principal && is_line d.host && is_line d.pattern.name
    && (not (same_resource d.resource Cluster) || same_pattern_kind d.pattern.kind Literal)
    && is_taken d.resource d.operation

unfoldable pub add_text : List ℕ
add_text = codes "kafka-acls.sh --add"

-- what Kafka does otherwise (KIP-679), above the line of a right that it does not ask for
abbrev pub write_note : Bool → List ℕ
write_note true = codes "# Kafka 2.8 and later accept Write on any topic instead (KIP-679).\n"
write_note false = codes ""

-- why a line is a comment, above it
abbrev pub refused_note : Bool → List ℕ
refused_note true = codes ""
refused_note false = codes "# kafka-acls.sh refuses this operation on this kind of resource.\n"

-- a command with its options, a comment where it can't be written
unfoldable pub command_line : List ℕ → Draft → List ℕ
command_line command d =
    refused_note (is_taken d.resource d.operation) ++ comment_unless (is_written d)
    ++ command ++ grant_text (is_written d) d
    ++ target_text (is_written d) d.resource d.pattern ++ codes "\n"

abbrev pub binding_line : Draft → List ℕ
binding_line d =
    write_note (same_operation d.operation IdempotentWrite) ++ command_line add_text d

-- a removal needs no answer to a question
abbrev pub removal_line : Draft → List ℕ
removal_line d = command_line (codes "kafka-acls.sh --remove --force") d
