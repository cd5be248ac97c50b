-- What the maps of the groups hold, and which groups are listed for which topics.
use Rattle.std.specs.Prelude.{◌≡◌, ◌<◌, ◌∷◌, ◌&&◌, ℕ, Bool, true, false, List, [], map, IfSome, Option, Some, None, is_some, if◌then◌else◌}
use Rattle.std.specs.Map.{lookup}
use Rattle.kob_groups.specs.Groups.{Commits, Groups, Offsets, StandsAt, commits_of, is_among, name_at, same_text, without_offsets}
pub use Rattle.kob_groups.specs.declared.commits.Commits.{Commits as CommitsKept}
pub use Rattle.kob_groups.specs.declared.lists.GroupsByTopic.{GroupsByTopic}
use Rattle.kob_groups.specs.declared.lists.Listing.{Listing}
use Rattle.kob_groups.specs.declared.lists.Listing.TheVariants.{InList, NewList}
pub use Rattle.kob_groups.specs.declared.offsets.Offsets.{Offsets as OffsetsKept}
use Rattle.kob_groups.specs.declared.offsets.Offsets.TheVariants.{One, Several}

-- the group is listed for the topic
abbrev pub is_listed : List ℕ → List ℕ → GroupsByTopic → Bool
is_listed topic group lists = is_among group (lookup (same_text topic) lists.by_topic.entries)

-- the topic and the group are these
abbrev pub is_pair : List ℕ → List ℕ → List ℕ → List ℕ → Bool
is_pair topic group t g = same_text topic t && same_text group g

-- the same groups are listed for the same topics
abbrev pub ListsAlike : GroupsByTopic → GroupsByTopic → Type 0
ListsAlike old new = (topic group : List ℕ) → is_listed topic group new ≡ is_listed topic group old

-- the topic and the group of a listing
abbrev pub topic_of : Listing → GroupsByTopic → List ℕ
topic_of (InList place group) lists = name_at lists.by_topic place
topic_of (NewList topic group names) lists = topic

abbrev pub group_of : Listing → List ℕ
group_of (InList place group) = group
group_of (NewList topic group names) = group

-- there is room for the group in the list at the place, or in a new one, for a topic that has none
abbrev pub HasRoomFor : Listing → GroupsByTopic → Type 0
HasRoomFor (InList place group) lists =
    StandsAt lists.by_topic place (name_at lists.by_topic place)
    × (is_listed (name_at lists.by_topic place) group lists ≡ false)
    × IfSome (lookup (same_text (name_at lists.by_topic place)) lists.by_topic.entries)
    (λ names. 0 < names.room)
HasRoomFor (NewList topic group names) lists =
    (0 < lists.by_topic.room)
    × (lookup (same_text topic) lists.by_topic.entries ≡ None)
    × (names.value.entries ≡ [])
    × (0 < names.value.room)

pub record Lists (listing : Listing) (topic group : List ℕ) (lists : GroupsByTopic) : Type 0 where
  pub topic_is : topic_of listing lists ≡ topic
  pub group_is : group_of listing ≡ group
  pub room : HasRoomFor listing lists

-- the group is listed for the topic, or can be
abbrev pub CanList : Option Listing → List ℕ → List ℕ → GroupsByTopic → Type 0
CanList None topic group lists = is_listed topic group lists ≡ true
CanList (Some listing) topic group lists = Lists listing topic group lists

abbrev pub has_commits : List ℕ → Commits → Bool
has_commits topic commits = is_some (lookup (same_text topic) commits)

-- a group is listed for a topic just where it has commits on it
abbrev pub AreListed : Groups → GroupsByTopic → Type 0
AreListed groups lists =
    (topic group : List ℕ)
    → is_listed topic group lists ≡ has_commits topic (commits_of group groups)

-- the offsets on a topic, a group's commits and the groups, without the room that is there for more
abbrev pub offsets_in : OffsetsKept → Offsets
offsets_in (One partition offset) = (partition, offset) ∷ []
offsets_in (Several offsets) = offsets.entries

abbrev pub commits_in : CommitsKept → Commits
commits_in kept = map (λ on. (on.0, offsets_in on.1)) kept.by_topic.entries

abbrev pub groups_in : List (List ℕ × CommitsKept) → Groups
groups_in entries = map (λ group. (group.0, commits_in group.1)) entries

-- the groups, where the commits on a topic went from those that pass
abbrev pub without_topic_at : (List ℕ → Bool) → List ℕ → Groups → Groups
without_topic_at passes topic groups =
    map (λ (group : List ℕ × Commits).
    (group.0, if passes group.0 then without_offsets topic group.1 else group.1)) groups
