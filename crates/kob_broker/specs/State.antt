-- What a broker holds, whatever its partitions are. The types it speaks of are passed on here.
use Rattle.std.specs.Prelude.{ℕ, List, [], map}
pub use Rattle.kob_authorizer.specs.Decide.{Contents, fresh_contents, IsTrueVerdict, Question, decide, question_of}
pub use Rattle.kob_authorizer.specs.Creation.{addition, CanCreate, create_fault, with_creation}
pub use Rattle.kob_catalog.specs.Topics.{Topic, has_partition, has_topic, listed, listed_where, partition_count, partition_of, topic_map, topics_map, with_partition, without_topic, topic_limit}
pub use Rattle.kob_groups.specs.Groups.{Groups, no_groups, committed_at, group_names, has_group, is_full_for, place_of, with_commit}
pub use Rattle.kob_names.specs.Binding.{Binding, is_bad_cluster}
pub use Rattle.kob_names.specs.declared.settings.Settings.{Settings}
pub use Rattle.kob_partition.specs.Meaning.{Meaning, batch_judged, fetch_fault, fetched, offset_limit, unless_repeat}
pub use Rattle.kob_rights.specs.declared.event.Event.{Event}
pub use Rattle.kob_rights.specs.declared.reason.Reason.{Reason}
pub use Rattle.kob_rights.specs.declared.reply.Reply.{Reply}
pub use Rattle.kob_rights.specs.declared.request.Request.{Request}
pub use Rattle.kob_names.specs.TextRules.{group_fault, name_limit, topic_fault}
pub use Rattle.kob_authorizer.specs.Deletion.{CanDelete, bindings_taken, without_taken}
pub use Rattle.kob_rights.specs.Requests.{AddBindings, AddTopic, AdvanceStart, Append, CommitOffset, GiveProducerId, RemoveBindings, RemoveGroup, RemoveTopic, Write, partition_named, write_of}
pub use Rattle.kob_catalog.specs.Kept.{CanAdd, catalog_log, is_bad_count, kept_of, new_topic, topics_of}
pub use Rattle.kob_partition.specs.Retained.{CanAppend, LogKept, Plain, Retained, plain_meaning, retained_meaning, retained_of}

-- the topics in order of creation, the groups with their committed offsets, the bindings in force
-- with the super users and the switch, and the producer id that is returned next
pub record State (P : Type 0) : Type 0 where
  pub topics : List (Topic P)
  pub groups : Groups
  pub access : Contents
  pub next_producer : ℕ

-- the bindings are put in force, one after another
abbrev pub with_bindings : List Binding → Contents → Contents
with_bindings bindings access = record access {
  entries = (addition access.entries access.next bindings).entries;
  next = (addition access.entries access.next bindings).next;
}

-- no topics and no groups, and the opening bindings in force under serials from 1 on
abbrev pub open_state : {P : Type 0} → Settings → State P
open_state settings = record {
  topics = [];
  groups = no_groups;
  access = with_bindings settings.opening (fresh_contents settings.supers settings.everyone);
  next_producer = 0;
}

-- the state with each partition seen otherwise
abbrev pub state_map : {P Q : Type 0} → (P → Q) → State P → State Q
state_map f s = record {
  topics = topics_map f s.topics;
  groups = s.groups;
  access = s.access;
  next_producer = s.next_producer;
}

-- the bindings in force, in rising serials
abbrev pub bindings_in_force : {P : Type 0} → State P → List Binding
bindings_in_force s = map (λ (entry : ℕ × Binding). entry.1) s.access.entries

-- the super users and the switch, and the bindings in force as the opening list of another broker
abbrev pub settings_of : {P : Type 0} → State P → Settings
settings_of s = record {
  supers = s.access.supers;
  opening = bindings_in_force s;
  everyone = s.access.everyone;
}
