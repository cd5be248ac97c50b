-- How the bindings of a creation and the filters of bindings are printed.
use Rattle.std.specs.Prelude.{ℕ, List, ◌++◌, codes, Option, Some, None, [], flat_map, bytes_eq, if◌then◌else◌}
use Rattle.kob_names.specs.declared.draft.Draft.{Draft}
use Rattle.kob_names.specs.declared.filter.BindingFilter.{BindingFilter}
use Rattle.kob_names.specs.declared.filter.FilterPattern.{FilterPattern}
use Rattle.kob_names.specs.declared.kinds.Operation.{Operation}
use Rattle.kob_names.specs.declared.kinds.Permission.{Permission}
use Rattle.kob_names.specs.declared.kinds.ResourceKind.{ResourceKind}
use Rattle.kob_names.specs.declared.batch.Idem.{Idem}
use Rattle.kob_names.specs.declared.record.Record.{Record}
use Rattle.kob_words.specs.Words.{operation_name, resource_name, pattern_name, permission_name, bytes_text, spaced, counted}
use Rattle.std.specs.Fmt.{decimal}
use Rattle.kob_rights.specs.declared.event.Event.{Event}
use Rattle.kob_rights.specs.declared.on_partitions.Before.{Before}
use Rattle.kob_rights.specs.declared.on_partitions.DeleteRecords.{DeleteRecords}
use Rattle.kob_rights.specs.declared.on_partitions.ListOffsets.{ListOffsets}
use Rattle.kob_rights.specs.declared.on_partitions.Which.{Which}
use Rattle.kob_rights.specs.declared.reply.Reply.{Reply}
use Rattle.kob_rights.specs.declared.request.Request.{Request}
use Rattle.kob_rights.specs.declared.request.Request.TheVariants.{Produce, Fetch, Metadata, OffsetCommit, OffsetFetch, ListGroups, DeleteGroups, CreateTopics, DeleteTopics, InitProducerId, DescribeAcls, CreateAcls, DeleteAcls}
use Rattle.kob_script.specs.Printed.{key_text, outcome_text}
use Rattle.kob_names.specs.declared.filter.FilterPattern.TheVariants as patterns
use Rattle.kob_rights.specs.declared.on_partitions.Before.TheVariants as bounds
use Rattle.kob_rights.specs.declared.on_partitions.Which.TheVariants as ends
use Rattle.kob_rights.specs.declared.request.Request.TheVariants as requests

-- a word that needs no escape, after a space
abbrev pub worded : List ℕ → List ℕ
worded word = codes " " ++ word

-- a binding of a creation: PERMISSION PRINCIPAL HOST OPERATION RESOURCE PATTERN NAME
abbrev pub draft_text : Draft → List ℕ
draft_text d =
    worded (permission_name d.permission) ++ spaced d.principal ++ spaced d.host
    ++ worded (operation_name d.operation) ++ worded (resource_name d.resource)
    ++ worded (pattern_name d.pattern.kind) ++ spaced d.pattern.name

abbrev pub pattern_text : FilterPattern → List ℕ
pattern_text patterns.Any = codes " any"
pattern_text patterns.Matching = codes " match"
pattern_text patterns.Literal = codes " LITERAL"
pattern_text patterns.Prefixed = codes " PREFIXED"

-- a text of a filter after a space; the text `-` has an escape, since the word `-` stands for any
abbrev pub asked_text : List ℕ → List ℕ
asked_text text = if bytes_eq text (codes "-") then codes " %2d" else spaced text

-- a part of a filter, `-` where any is meant
abbrev pub or_dash : {A : Type 0} → (A → List ℕ) → Option A → List ℕ
or_dash text None = codes " -"
or_dash text (Some part) = text part

abbrev pub resource_text : Option ResourceKind → List ℕ
resource_text resource = or_dash (λ it. worded (resource_name it)) resource

abbrev pub operation_text : Option Operation → List ℕ
operation_text operation = or_dash (λ it. worded (operation_name it)) operation

abbrev pub permission_text : Option Permission → List ℕ
permission_text permission = or_dash (λ it. worded (permission_name it)) permission

-- RESOURCE NAME PATTERN PRINCIPAL HOST OPERATION PERMISSION
abbrev pub filter_text : BindingFilter → List ℕ
filter_text f =
    resource_text f.resource ++ or_dash asked_text f.name ++ pattern_text f.pattern
    ++ or_dash spaced f.principal ++ or_dash asked_text f.host ++ operation_text f.operation
    ++ permission_text f.permission

-- How requests are printed: as a script writes them.

-- the producer's word of a batch
abbrev pub idem_text : Option Idem → List ℕ
idem_text None = codes " -"
idem_text (Some idem) =
    counted idem.id ++ codes ":" ++ decimal idem.epoch ++ codes ":" ++ decimal idem.base

-- KEY=VALUE or VALUE; headers aren't printed
abbrev pub record_text : Record → List ℕ
record_text message = codes " " ++ key_text message.key ++ bytes_text message.value

abbrev pub which_text : Which → List ℕ
which_text ends.Start = codes " -2"
which_text ends.End = codes " -1"

abbrev pub before_text : Before → List ℕ
before_text (bounds.Offset offset) = counted offset
before_text bounds.End = codes " -1"

-- TOPIC PARTITION, and -2 for the start or -1 for the end
abbrev pub end_words : ListOffsets → List ℕ
end_words o = spaced o.topic ++ counted o.partition ++ which_text o.which

-- TOPIC PARTITION, and the offset before which records go
abbrev pub bound_words : DeleteRecords → List ℕ
bound_words r = spaced r.topic ++ counted r.partition ++ before_text r.before

-- a topic's name where one is asked for
abbrev pub topic_text : Option (List ℕ) → List ℕ
topic_text None = []
topic_text (Some name) = spaced name

-- a request as a line of a script writes it, from its command on
abbrev pub request_text : Request → List ℕ
request_text (Produce p) =
    codes " produce" ++ spaced p.topic ++ counted p.partition ++ idem_text p.batch.idem
    ++ flat_map record_text p.batch.records
request_text (Fetch f) =
    codes " fetch" ++ spaced f.topic ++ counted f.partition ++ counted f.offset ++ counted f.max
request_text (requests.ListOffsets o) =
    codes " list-offsets" ++ end_words o
request_text (Metadata m) = codes " metadata" ++ topic_text m.topic
request_text (OffsetCommit c) =
    codes " commit" ++ spaced c.group ++ spaced c.topic ++ counted c.partition ++ counted c.offset
request_text (OffsetFetch c) =
    codes " committed" ++ spaced c.group ++ spaced c.topic ++ counted c.partition
request_text ListGroups = codes " groups"
request_text (DeleteGroups d) = codes " delete-group" ++ spaced d.group
request_text (CreateTopics t) = codes " create-topic" ++ spaced t.name ++ counted t.partitions
request_text (DeleteTopics t) = codes " delete-topic" ++ spaced t.name
request_text (requests.DeleteRecords r) =
    codes " delete-records" ++ bound_words r
request_text InitProducerId = codes " init-producer"
request_text (DescribeAcls d) = codes " describe-acls" ++ filter_text d.filter
request_text (CreateAcls c) = codes " create-acl" ++ flat_map draft_text c.drafts
request_text (DeleteAcls d) = codes " delete-acls" ++ filter_text d.filter

-- PRINCIPAL HOST REQUEST
abbrev pub event_text : Event → List ℕ
event_text event = spaced event.principal ++ spaced event.host ++ request_text event.request

-- entry PLACE WORKER, the event and the outcome, on a line of its own
abbrev pub entry_text : ℕ → List ℕ → Event → Reply → List ℕ
entry_text place worker event reply =
    codes "entry" ++ counted place ++ spaced worker ++ event_text event ++ outcome_text reply
    ++ codes "\n"
