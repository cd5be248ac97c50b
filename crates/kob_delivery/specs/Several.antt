-- What the law asks where other services send to topics of a consumer's assignment too.
use Rattle.std.specs.Prelude.{◌≡◌, ◌⊎◌, ℕ, List, Bool, false, bytes_eq, Contains, Option, None, Some, slice_get, take}
use Rattle.std.specs.List.{list_any, AllByRecursion}
use Rattle.kob_delivery.specs.Types.{Record, Request, Produce, Dispatching, Place, Entry}
use Rattle.kob_delivery.specs.Delivered.{carried_id, ids_of}
use Rattle.kob_delivery.specs.View.{IsNeverDeleted, IsSoleCommitter, IsSoleProducer, Produces}
use Rattle.kob_outbox.specs.Contents.{Event}
use Rattle.kob_names.specs.Same.{same_text}
use Rattle.kob_router.specs.Run.{place_of}

-- the event id, where there is one, is among these
abbrev pub is_one_of : List (List ℕ) → Option (List ℕ) → Bool
is_one_of ids None = false
is_one_of ids (Some id) = list_any (bytes_eq id) ids

-- the record carries none of these event ids
abbrev pub CarriesNone : List (List ℕ) → Record → Type 0
CarriesNone ids message = is_one_of ids (carried_id message) ≡ false

-- nor does any record of the PRODUCE
abbrev pub SendsNone : List (List ℕ) → Request → Type 0
SendsNone ids (Produce asked) = AllByRecursion (CarriesNone ids) asked.batch.records
SendsNone ids _ = Unit {0}

-- a PRODUCE to the topic that was done is the worker's, or sends none of these event ids
abbrev pub IsOwnOrApart : ℕ → List ℕ → List (List ℕ) → Entry → Type 0
IsOwnOrApart worker topic ids e = Produces topic e.event.request e.reply
    → (e.worker ≡ worker) ⊎ SendsNone ids e.event.request

-- one of the rows is routed to the topic
pub record AreRoutedTo (route : Dispatching) (rows : List Event) (topic : List ℕ) : Type 0 where
  pub row : Event
  pub there : Contains rows row
  pub place : Place
  pub goes : place_of (route row) ≡ Some place
  pub topic_is : place.topic ≡ topic

-- to the topic, if one of the rows is routed there, one worker alone sends, and what others send
-- carries no event id of the rows; another worker alone commits for the group, and nobody deletes it
pub record IsSharedTopic (route : Dispatching) (rows : List Event) (sender taker : ℕ)
    (group topic : List ℕ) (journal : List Entry) : Type 0 where
  pub producer : AreRoutedTo route rows topic → IsSoleProducer sender topic journal
  pub others : AllByRecursion (IsOwnOrApart sender topic (ids_of rows)) journal
  pub committer : IsSoleCommitter taker group topic journal
  pub kept : IsNeverDeleted topic journal

-- all partitions of an assignment are of such topics
abbrev pub AreSharedTopics
    : Dispatching → List Event → ℕ → ℕ → List ℕ → List Place → List Entry → Type 0
AreSharedTopics route rows sender taker group assignment journal = (place : Place)
    → Contains assignment place → IsSharedTopic route rows sender taker group place.topic journal

-- the place is on the topic
abbrev pub is_on_topic : List ℕ → Option Place → Bool
is_on_topic topic None = false
is_on_topic topic (Some place) = same_text place.topic topic

-- the row is routed to the topic
abbrev pub goes_to_topic : Dispatching → List ℕ → Event → Bool
goes_to_topic route topic row = is_on_topic topic (place_of (route row))

-- the first partition of an assignment whose topic is not shared so
pub record IsFirstUnshared (route : Dispatching) (rows : List Event) (sender taker : ℕ)
    (group : List ℕ) (assignment : List Place) (journal : List Entry) (assigned : ℕ)
    : Type 0 where
  pub place : Place
  pub there : slice_get assignment assigned ≡ Some place
  pub breaks : ¬ (IsSharedTopic route rows sender taker group place.topic journal)
  pub before :
      AllByRecursion (λ p. IsSharedTopic route rows sender taker group p.topic journal)
      (take assigned assignment)
