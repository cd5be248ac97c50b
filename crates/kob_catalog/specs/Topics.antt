-- Topics in order of creation, whatever their partitions are.
use Rattle.std.specs.Prelude.{ℕ, List, [], Bool, not, Option, filter, is_some, length, map, option_map, slice_get, slice_set, unwrap_or}
use Rattle.std.specs.Map.{lookup, set_value}
pub use Rattle.kob_names.specs.Same.{same_text}

-- the most topics at once
abbrev pub topic_limit : ℕ
topic_limit = 10000

-- the most partitions of a topic
abbrev pub partition_limit : ℕ
partition_limit = 1000

-- a topic's name, with its partitions by number
abbrev pub Topic : Type 0 → Type 0
Topic P = List ℕ × List P

module _ {P : Type 0} where
  abbrev pub has_topic : List ℕ → List (Topic P) → Bool
  has_topic name topics = is_some (lookup (same_text name) topics)

  -- the number of partitions of the topic of that name
  abbrev pub partition_count : List ℕ → List (Topic P) → Option ℕ
  partition_count name topics = option_map length (lookup (same_text name) topics)

  -- the partitions of the topic of that name, and none where there is no such topic
  abbrev pub partitions_of : List ℕ → List (Topic P) → List P
  partitions_of name topics = unwrap_or (lookup (same_text name) topics) []

  -- a partition of the topic of that name
  abbrev pub partition_of : List ℕ → ℕ → List (Topic P) → Option P
  partition_of name partition topics = slice_get (partitions_of name topics) partition

  -- the topic of that name has a partition of that number
  abbrev pub has_partition : List ℕ → ℕ → List (Topic P) → Bool
  has_partition name partition topics = is_some (partition_of name partition topics)

  -- the topics with a partition of the topic of that name written
  abbrev pub with_partition : List ℕ → ℕ → P → List (Topic P) → List (Topic P)
  with_partition name partition written topics =
      set_value (same_text name) topics
      (slice_set (partitions_of name topics) partition written)

  -- the topics without that of the name
  abbrev pub without_topic : List ℕ → List (Topic P) → List (Topic P)
  without_topic name topics = filter (λ (topic : Topic P). not (same_text name topic.0)) topics

  -- a topic's name and its number of partitions
  abbrev pub listed : Topic P → List ℕ × ℕ
  listed topic = (topic.0, length topic.1)

  -- the topics whose names are granted, in order
  abbrev pub listed_where : (List ℕ → Bool) → List (Topic P) → List (List ℕ × ℕ)
  listed_where granted topics = filter (λ (topic : List ℕ × ℕ). granted topic.0) (map listed topics)

module _ {P Q : Type 0} where
  -- the topic with each partition mapped
  abbrev pub topic_map : (P → Q) → Topic P → Topic Q
  topic_map f topic = (topic.0, map f topic.1)

  abbrev pub topics_map : (P → Q) → List (Topic P) → List (Topic Q)
  topics_map f topics = map (topic_map f) topics
