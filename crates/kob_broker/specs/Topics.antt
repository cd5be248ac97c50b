-- Requests on topics: created, deleted, listed.
use Rattle.std.specs.Prelude.{ℕ, Bool, not, List, [], ◌∷◌, ◌++◌, Option, Some, None, is_some, length, nat_le}
use Rattle.kob_groups.specs.Groups as groups
use Rattle.kob_rights.specs.declared.on_topics.CreateTopics.{CreateTopics}
use Rattle.kob_rights.specs.declared.on_topics.DeleteTopics.{DeleteTopics}
use Rattle.kob_rights.specs.declared.reason.Reason.TheVariants as reasons
use Rattle.kob_rights.specs.declared.request.Request.TheVariants as requests
use Rattle.kob_broker.specs.Denial.{describes_topic}
use Rattle.kob_broker.specs.State.{Contents, Event, Meaning, Reason, Request, State, Topic, has_topic, listed_where, partition_count, without_topic, is_bad_count, new_topic, topic_limit, topic_fault}

-- a topic that is found, with its number of partitions
abbrev pub counted : List ℕ → Option ℕ → List (List ℕ × ℕ)
counted name None = []
counted name (Some count) = (name, count) ∷ []

abbrev pub metadata_request : Option (List ℕ) → Request
metadata_request topic = requests.Metadata (record { topic = topic })

module _ {P : Type 0} (m : Meaning P) where
  abbrev pub create_topics_reasons : State P → CreateTopics → List (Bool × Reason)
  create_topics_reasons s create =
      (is_some (topic_fault create.name), reasons.BadTopicName)
      ∷ (has_topic create.name s.topics, reasons.TopicExists)
      ∷ (is_bad_count create.partitions, reasons.BadPartitions)
      ∷ (nat_le topic_limit (length s.topics), reasons.TooManyTopics)
      ∷ []

  -- a topic with empty partitions is put last
  abbrev pub create_topics_after : State P → CreateTopics → State P
  create_topics_after s create =
      record s { topics = s.topics ++ new_topic m create.name create.partitions ∷ [] }

module _ {P : Type 0} where
  abbrev pub delete_topics_reasons : State P → DeleteTopics → List (Bool × Reason)
  delete_topics_reasons s delete = (not (has_topic delete.name s.topics), reasons.UnknownTopic) ∷ []

  -- the topic goes, and the commits on it
  abbrev pub delete_topics_after : State P → List ℕ → State P
  delete_topics_after s name =
      record s { topics = without_topic name s.topics; groups = groups.without_topic name s.groups }

  abbrev pub metadata_reasons : List (Topic P) → Option (List ℕ) → List (Bool × Reason)
  metadata_reasons topics None = []
  metadata_reasons topics (Some name) = (not (has_topic name topics), reasons.UnknownTopic) ∷ []

  -- one topic with its number of partitions, or all that the principal may describe, in order
  abbrev pub metadata_of : Contents → Event → List (Topic P) → Option (List ℕ) → List (List ℕ × ℕ)
  metadata_of access event topics None = listed_where (describes_topic access event) topics
  metadata_of access event topics (Some name) = counted name (partition_count name topics)
