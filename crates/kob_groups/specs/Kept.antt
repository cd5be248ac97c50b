-- When there is room for a commit.
use Rattle.std.specs.Prelude.{◌≡◌, ◌<◌, ◌⊎◌, ℕ, nat_eq, Bool, true, false, List, [], IfSome, IsSome, Option, Some, None}
use Rattle.std.specs.Map.{lookup}
use Rattle.indexmap.specs.IndexMap.{spare}
use Rattle.kob_groups.specs.Groups.{CommitPlace, Groups, Ordered, StandsAt, name_at, place_of, same_text}
use Rattle.kob_groups.specs.Listed.{CanList, CommitsKept, OffsetsKept, groups_in}
pub use Rattle.kob_groups.specs.Listed.{commits_in, offsets_in}
use Rattle.kob_groups.specs.declared.commit.GroupEntry.{GroupEntry}
use Rattle.kob_groups.specs.declared.commit.GroupEntry.TheVariants.{GroupAt, NewGroup}
use Rattle.kob_groups.specs.declared.commit.PreparedCommit.{PreparedCommit}
use Rattle.kob_groups.specs.declared.commits.TopicEntry.{TopicEntry}
use Rattle.kob_groups.specs.declared.commits.TopicEntry.TheVariants.{NewTopic, TopicAt}
use Rattle.kob_groups.specs.declared.groups.Groups.{Groups as GroupsKept}
use Rattle.kob_groups.specs.declared.offsets.Offsets.TheVariants.{One, Several}

abbrev pub groups_of : GroupsKept → Groups
groups_of kept = groups_in kept.by_name.entries

-- the partition has an offset, or there is room for one more
abbrev pub HasRoom : ℕ → OffsetsKept → Type 0
HasRoom partition (One one offset) = nat_eq partition one ≡ true
HasRoom partition (Several offsets) =
    IsSome (lookup (nat_eq partition) offsets.entries) ⊎ (0 < spare offsets)

-- the topic of an entry
abbrev pub topic_in : TopicEntry → CommitsKept → List ℕ
topic_in (TopicAt place) commits = name_at commits.by_topic place
topic_in (NewTopic topic) commits = topic

-- the group had commits on the topic
abbrev pub has_topic : TopicEntry → Bool
has_topic (TopicAt place) = true
has_topic (NewTopic topic) = false

abbrev pub had_commits : GroupEntry → Bool
had_commits (GroupAt place topic) = has_topic topic
had_commits (NewGroup group commits topic) = false

-- there is room for the offset on the topic at the place, or for a new topic
abbrev pub CanPut : TopicEntry → ℕ → CommitsKept → Type 0
CanPut (TopicAt place) partition commits =
    StandsAt commits.by_topic place (name_at commits.by_topic place)
    × IfSome (lookup (same_text (name_at commits.by_topic place)) commits.by_topic.entries)
    (HasRoom partition)
CanPut (NewTopic topic) partition commits =
    (0 < commits.by_topic.room)
    × (lookup (same_text topic) commits.by_topic.entries ≡ None)

-- the topic of an entry among the commits of a group that is there
abbrev pub topic_among : TopicEntry → Option CommitsKept → List ℕ
topic_among entry None = []
topic_among entry (Some commits) = topic_in entry commits

-- where the commit of an entry goes
abbrev pub place_at : GroupEntry → ℕ → Ordered CommitsKept → CommitPlace
place_at (GroupAt place topic) partition groups =
    place_of (name_at groups place)
    (topic_among topic (lookup (same_text (name_at groups place)) groups.entries)) partition
place_at (NewGroup group commits topic) partition groups =
    place_of group (topic_in topic commits.value) partition

-- there is room for the offset among the commits of the group at the place, or of a new one
abbrev pub CanEnter : GroupEntry → ℕ → Ordered CommitsKept → Type 0
CanEnter (GroupAt place topic) partition groups =
    StandsAt groups place (name_at groups place)
    × IfSome (lookup (same_text (name_at groups place)) groups.entries) (CanPut topic partition)
CanEnter (NewGroup group commits topic) partition groups =
    (0 < groups.room)
    × (lookup (same_text group) groups.entries ≡ None)
    × (commits_in commits.value ≡ [])
    × CanPut topic partition commits.value

-- a new group with no commits, with room for one on that topic
abbrev pub IsNewGroup : List ℕ → List ℕ → ℕ → GroupEntry → Type 0
IsNewGroup group topic partition (GroupAt place entry) = ⊥
IsNewGroup group topic partition (NewGroup name commits entry) =
    (name ≡ group)
    × (topic_in entry commits.value ≡ topic)
    × (commits_in commits.value ≡ [])
    × CanPut entry partition commits.value

-- where a prepared commit goes
abbrev pub place_in : PreparedCommit → GroupsKept → CommitPlace
place_in made kept = place_at made.entry made.partition kept.by_name

-- there is room for the commit, and for the group in the topic's list
pub record CanCommit (made : PreparedCommit) (kept : GroupsKept) : Type 0 where
  pub entry : CanEnter made.entry made.partition kept.by_name
  pub listing : CanList made.listing (place_in made kept).topic (place_in made kept).group kept.lists
