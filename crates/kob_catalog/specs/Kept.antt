-- What a catalog shows, and the creation of a topic.
use Rattle.std.specs.Prelude.{◌≡◌, ◌<◌, ◌&&◌, ℕ, nat_le, Bool, false, not, List, length, replicate, Option, Some, None, unwrap_or, if◌then◌else◌, refl}
use Rattle.std.specs.Coded.{Coded, code_by, coded×, coded_list, coded_ℕ}
pub use Rattle.kob_partition.specs.Retained.{LogKept, log_code, Retained, retained_meaning}
use Rattle.kob_partition.specs.Meaning.{Meaning}
use Rattle.kob_catalog.specs.Topics.{Topic, has_topic, partition_limit, partition_of, topic_limit, topics_map, with_partition}
use Rattle.kob_catalog.specs.declared.fault.CreateFault.{CreateFault}
use Rattle.kob_catalog.specs.declared.fault.CreateFault.TheVariants.{BadPartitions, Exists, TooMany}

-- the topics, each partition with its room, and for how many more topics there is room
pub record CatalogKept : Type 0 where
  pub logs : List (Topic LogKept)
  pub room : ℕ

abbrev pub topic_code : Coded (Topic LogKept)
topic_code = coded× (coded_list coded_ℕ) (coded_list log_code)

abbrev pub catalog_code : Coded CatalogKept
catalog_code =
    code_by (List (Topic LogKept) × ℕ) (coded× (coded_list topic_code) coded_ℕ)
    (λ c. (c.logs, c.room)) (λ p. record { logs = p.0; room = p.1 }) (λ _. refl)

-- what a log keeps, without its room
abbrev pub kept_of : LogKept → Retained
kept_of log = log.kept

-- the topics, without the room of their partitions
abbrev pub topics_of : CatalogKept → List (Topic Retained)
topics_of kept = topics_map kept_of kept.logs

abbrev pub empty_log : LogKept
empty_log = record { kept = retained_meaning.empty; reserved = 0; ready = false }

-- the partition of that number of the topic of that name, with its room
abbrev pub catalog_log : CatalogKept → List ℕ → ℕ → LogKept
catalog_log kept name partition = unwrap_or (partition_of name partition kept.logs) empty_log

-- the catalog with that partition written
abbrev pub with_log : CatalogKept → List ℕ → ℕ → LogKept → CatalogKept
with_log kept name partition log =
    record kept { logs = with_partition name partition log kept.logs }

-- a topic has at least one partition, and not more than the limit
abbrev pub is_bad_count : ℕ → Bool
is_bad_count partitions = not (nat_le 1 partitions && nat_le partitions partition_limit)

-- the first rule that a creation breaks
abbrev pub create_fault : {P : Type 0} → List (Topic P) → List ℕ → ℕ → Option CreateFault
create_fault topics name partitions =
    if has_topic name topics then Some Exists
    else (if is_bad_count partitions then Some BadPartitions
    else (if nat_le topic_limit (length topics) then Some TooMany
    else None))

-- a topic of that name with empty partitions
abbrev pub new_topic : {P : Type 0} → Meaning P → List ℕ → ℕ → Topic P
new_topic m name partitions = (name, replicate partitions m.empty)

-- there is room for the topic, and no other of its name
pub record CanAdd (made : Topic LogKept) (kept : CatalogKept) : Type 0 where
  pub room : 0 < kept.room
  pub fresh : has_topic made.0 (topics_of kept) ≡ false
