-- Groups in order of their first commit, and the offsets that they committed.
use Rattle.std.specs.Prelude.{◌≡◌, ◌<◌, ◌&&◌, ℕ, Bool, false, not, List, [], Option, Some, None, filter, is_some, length, map, nat_eq, nat_le, unwrap_or}
use Rattle.std.specs.Map.{keys_of, lookup}
pub use Rattle.indexmap.specs.IndexMap.{insert_entry}
pub use Rattle.kob_names.specs.Same.{same_text}
pub use Rattle.kob_ordered.specs.Ordered.{Ordered, StandsAt, name_at}

-- the most groups at once
abbrev pub group_limit : ℕ
group_limit = 10000

-- the offsets on a topic, by partition
abbrev pub Offsets : Type 0
Offsets = List (ℕ × ℕ)

-- a group's commits: each topic's name, with the offsets on it
abbrev pub Commits : Type 0
Commits = List (List ℕ × Offsets)

-- each group's name, with its commits, in order of the first commit
abbrev pub Groups : Type 0
Groups = List (List ℕ × Commits)

-- a partition of a topic, as a group commits an offset on it; Kafka keeps one offset for each
pub record CommitPlace : Type 0 where
  pub group : List ℕ
  pub topic : List ℕ
  pub partition : ℕ

abbrev pub no_groups : Groups
no_groups = []

abbrev pub place_of : List ℕ → List ℕ → ℕ → CommitPlace
place_of group topic partition = record { group = group; topic = topic; partition = partition }

abbrev pub group_names : Groups → List (List ℕ)
group_names groups = keys_of groups

abbrev pub has_group : List ℕ → Groups → Bool
has_group name groups = is_some (lookup (same_text name) groups)

-- the group is a new one, and there are as many as may be
abbrev pub is_full_for : List ℕ → Groups → Bool
is_full_for name groups = not (has_group name groups) && nat_le group_limit (length groups)

-- the commits of the group of that name, and none where there is no such group
abbrev pub commits_of : List ℕ → Groups → Commits
commits_of name groups = unwrap_or (lookup (same_text name) groups) []

-- the offsets among a group's commits on the topic of that name
abbrev pub offsets_on : List ℕ → Commits → Offsets
offsets_on topic commits = unwrap_or (lookup (same_text topic) commits) []

-- the offset that was committed at a place, if any was
abbrev pub committed_at : CommitPlace → Groups → Option ℕ
committed_at place groups =
    lookup (nat_eq place.partition) (offsets_on place.topic (commits_of place.group groups))

-- a group's commits with an offset on a topic, which takes the place of the one before
abbrev pub with_offset : List ℕ → ℕ → ℕ → Commits → Commits
with_offset topic partition offset commits =
    insert_entry same_text commits topic
    (insert_entry nat_eq (offsets_on topic commits) partition offset)

-- the offset stands at its place, and a new group is put last
abbrev pub with_commit : CommitPlace → ℕ → Groups → Groups
with_commit place offset groups =
    insert_entry same_text groups place.group
    (with_offset place.topic place.partition offset (commits_of place.group groups))

-- the group goes, with its commits
abbrev pub without_group : List ℕ → Groups → Groups
without_group name groups =
    filter (λ (group : List ℕ × Commits). not (same_text name group.0)) groups

-- a group's commits but those on a topic
abbrev pub without_offsets : List ℕ → Commits → Commits
without_offsets topic commits =
    filter (λ (on : List ℕ × Offsets). not (same_text topic on.0)) commits

-- the commits on a topic go, and the groups stay
abbrev pub without_topic : List ℕ → Groups → Groups
without_topic topic groups =
    map (λ (group : List ℕ × Commits). (group.0, without_offsets topic group.1)) groups

-- a list has the name; no list has none
abbrev pub is_among : {V : Type 0} → List ℕ → Option (Ordered V) → Bool
is_among group None = false
is_among group (Some names) = is_some (lookup (same_text group) names.entries)

-- no list is empty
abbrev pub AreFilled : {V : Type 0} → List (List ℕ × Ordered V) → Type 0
AreFilled {V} lists =
    (topic : List ℕ) (names : Ordered V) → lookup (same_text topic) lists ≡ Some names
    → 0 < length names.entries
