-- The bindings in force at an event's place, and what the replies of a run say in their terms.
use Rattle.std.specs.Prelude.{◌≡◌, ◌↔◌, ◌⊎◌, ◌+◌, ℕ, Bool, true, false, IsTrue, List, [], ◌∷◌, Option, Some, None, length, map, slice_get, take}
use Rattle.std.specs.List.{AllByRecursion, AllZip}
pub use Rattle.kob_rights.specs.declared.code.Code.{Code}
use Rattle.kob_rights.specs.declared.code.Code.TheVariants.{ClusterAuthorizationFailed, GroupAuthorizationFailed, TopicAuthorizationFailed}
use Rattle.kob_names.specs.declared.batch.Idem.{Idem}
use Rattle.kob_rights.specs.declared.request.Request.TheVariants as requests
use Rattle.std.specs.Option.{option_map}
use Rattle.kob_rights.specs.declared.reason.Reason.TheVariants as reasons
use Rattle.kob_rights.specs.declared.reply.Body.TheVariants.{Groups, Topics}
use Rattle.kob_rights.specs.declared.request.Request.TheVariants.{ListGroups}
use Rattle.kob_broker.specs.Denial.{Check, Denied, Done, Refused, Verdict, denial_code, describes_cluster, describes_group, describes_topic, is_granted, question, rights, verdict}
use Rattle.kob_broker.specs.State.{Contents, Event, Meaning, Reason, Reply, Request, State, listed, with_bindings, without_taken, IsTrueVerdict, group_names, AddBindings, AddTopic, AdvanceStart, Append, CommitOffset, GiveProducerId, RemoveBindings, RemoveGroup, RemoveTopic, Write, write_of}
use Rattle.kob_broker.specs.Step.{replies_of, state_after, step}
use Rattle.kob_broker.specs.Topics.{metadata_request}

-- what is written does this to the bindings; no other kind touches them
abbrev pub changed_access : Option Write → Contents → Contents
changed_access (Some (AddBindings create)) access = with_bindings create.drafts access
changed_access (Some (RemoveBindings delete)) access = without_taken delete.filter access
changed_access (Some (Append produce)) access = access
changed_access (Some (CommitOffset commit)) access = access
changed_access (Some (RemoveGroup delete)) access = access
changed_access (Some (AddTopic create)) access = access
changed_access (Some (RemoveTopic delete)) access = access
changed_access (Some (AdvanceStart delete)) access = access
changed_access (Some GiveProducerId) access = access
changed_access None access = access

-- they are changed by what was done, and by nothing else
abbrev pub access_after : Reply → Request → Contents → Contents
access_after (Done body) request access = changed_access (write_of request) access
access_after (Denied code verdicts) request access = access
access_after (Refused code reason) request access = access

-- the bindings in force after events with these replies
abbrev pub in_force : List Event → List Reply → Contents → Contents
in_force [] replies access = access
in_force (event ∷ events) [] access = access
in_force (event ∷ events) (reply ∷ replies) access =
    in_force events replies (access_after reply event.request access)

module _ {P : Type 0} (m : Meaning P) where
  -- the bindings in force after the first k events of a run
  abbrev pub in_force_at : List Event → State P → ℕ → Contents
  in_force_at events s k = in_force (take k events) (take k (replies_of m events s)) s.access

  -- at each place of a run the broker holds the bindings that are in force there
  abbrev pub HoldsInForce : List Event → State P → Type 0
  HoldsInForce events s = (k : ℕ)
      → (state_after m (take k events) s).access ≡ in_force_at events s k

-- the right is granted by the bindings in force
abbrev pub Grants : Contents → Event → Check → Type 0
Grants access event check = IsTrue (is_granted (verdict access event check))

abbrev pub SomeGranted : Contents → Event → List Check → Type 0
SomeGranted access event [] = ⊥
SomeGranted access event (check ∷ checks) = Grants access event check
    ⊎ SomeGranted access event checks

-- each clause has an alternative that is granted
abbrev pub EachGranted : Contents → Event → List (List Check) → Type 0
EachGranted access event clauses = AllByRecursion (SomeGranted access event) clauses

-- the verdict is the decision by these bindings; it does not grant, and says what is so: it names
-- the earliest of all denies that hit, or says that neither a deny nor an allow hits
pub record IsBlame (access : Contents) (event : Event) (check : Check)
    (blamed : Verdict) : Type 0 where
  pub decided : blamed ≡ verdict access event check
  pub not_granted : is_granted blamed ≡ false
  pub says : IsTrueVerdict access (question event check) blamed

-- a verdict for each alternative, in order
abbrev pub EachBlamed : Contents → Event → List Check → List Verdict → Type 0
EachBlamed access event checks blamed = AllZip (IsBlame access event) checks blamed

-- the denial is for the first clause of which no alternative is granted
pub record IsDenial (access : Contents) (event : Event) (code : Code)
    (verdicts : List Verdict) : Type 0 where
  pub place : ℕ
  pub clause : List Check
  pub clause_is : slice_get (rights event.request) place ≡ Some clause
  pub before : EachGranted access event (take place (rights event.request))
  pub code_is : code ≡ denial_code event.request place
  pub blamed : EachBlamed access event clause verdicts

-- the codes of denials by the clauses of each request, in their order
abbrev pub produce_codes : Option Idem → List Code
produce_codes None = TopicAuthorizationFailed ∷ []
produce_codes (Some idem) = ClusterAuthorizationFailed ∷ TopicAuthorizationFailed ∷ []

abbrev pub metadata_codes : Option (List ℕ) → List Code
metadata_codes None = []
metadata_codes (Some topic) = TopicAuthorizationFailed ∷ []

abbrev pub denial_codes : Request → List Code
denial_codes (requests.Produce produce) = produce_codes produce.batch.idem
denial_codes (requests.Fetch fetch) = TopicAuthorizationFailed ∷ []
denial_codes (requests.ListOffsets asked) = TopicAuthorizationFailed ∷ []
denial_codes (requests.Metadata asked) = metadata_codes asked.topic
denial_codes (requests.OffsetCommit commit) =
    GroupAuthorizationFailed ∷ TopicAuthorizationFailed ∷ []
denial_codes (requests.OffsetFetch asked) =
    GroupAuthorizationFailed ∷ TopicAuthorizationFailed ∷ []
denial_codes requests.ListGroups = []
denial_codes (requests.DeleteGroups delete) = GroupAuthorizationFailed ∷ []
denial_codes (requests.CreateTopics create) = TopicAuthorizationFailed ∷ []
denial_codes (requests.DeleteTopics delete) = TopicAuthorizationFailed ∷ []
denial_codes (requests.DeleteRecords delete) = TopicAuthorizationFailed ∷ []
denial_codes requests.InitProducerId = ClusterAuthorizationFailed ∷ []
denial_codes (requests.DescribeAcls asked) = ClusterAuthorizationFailed ∷ []
denial_codes (requests.CreateAcls create) = ClusterAuthorizationFailed ∷ []
denial_codes (requests.DeleteAcls delete) = ClusterAuthorizationFailed ∷ []

-- a denial by the clause at a place, if the request has one there, has this code
abbrev pub HasCodes : Request → List Code → Type 0
HasCodes request codes = (place : ℕ)
    → slice_get codes place
    ≡ option_map (λ _. denial_code request place) (slice_get (rights request) place)

-- a request is denied for a clause that isn't granted, and served only where each clause is
abbrev pub IsJust : Contents → Event → Reply → Type 0
IsJust access event (Denied code verdicts) = IsDenial access event code verdicts
IsJust access event (Refused code reason) = EachGranted access event (rights event.request)
IsJust access event (Done body) = EachGranted access event (rights event.request)

module _ {P : Type 0} (m : Meaning P) where
  -- each reply of a run is just, by the bindings in force at its place
  abbrev pub EachJust : List Event → State P → Type 0
  EachJust events s = (k : ℕ) (event : Event) (reply : Reply)
      → slice_get events k ≡ Some event → slice_get (replies_of m events s) k ≡ Some reply
      → IsJust (in_force_at m events s k) event reply

  -- where the request is not done, the state stays as it was
  pub record LeavesUnlessDone (s : State P) (event : Event) : Type 0 where
    pub denied : (code : Code) (verdicts : List Verdict)
        → (step m s event).reply ≡ Denied code verdicts → (step m s event).state ≡ s
    pub refused : (code : Code) (reason : Reason)
        → (step m s event).reply ≡ Refused code reason → (step m s event).state ≡ s

-- equal bindings under equal serials, super users and switch; the serials to come may differ
pub record AgreeOnAccess (one other : Contents) : Type 0 where
  pub entries : one.entries ≡ other.entries
  pub supers : one.supers ≡ other.supers
  pub everyone : one.everyone ≡ other.everyone

-- one is a denial exactly where the other is the same denial
pub record SameDenial (one other : Reply) : Type 0 where
  pub denied : (code : Code) (verdicts : List Verdict)
      → (one ≡ Denied code verdicts) ↔ (other ≡ Denied code verdicts)

-- x is in the list
abbrev pub StandsIn : {A : Type 0} → A → List A → Type 0
StandsIn x [] = ⊥
StandsIn x (y ∷ ys) = (x ≡ y) ⊎ StandsIn x ys

-- the listed are those of all that are shown, in the order of all
abbrev pub AreThose : {A : Type 0} → (A → Type 0) → List A → List A → Type 0
AreThose shown [] [] = Unit {0}
AreThose shown (x ∷ xs) [] = ⊥
AreThose shown [] (y ∷ ys) = (¬ shown y) × AreThose shown [] ys
AreThose shown (x ∷ xs) (y ∷ ys) =
    (shown y × ((x ≡ y) × AreThose shown xs ys)) ⊎ ((¬ shown y) × AreThose shown (x ∷ xs) ys)

-- what is listed is shown and stands among all, and the other way round, in the order of all
pub record Lists {A : Type 0} (shown : A → Type 0) (listed all : List A) : Type 0 where
  pub holds : (x : A) → StandsIn x listed ↔ (shown x × StandsIn x all)
  pub in_order : AreThose shown listed all

-- the bindings let the principal describe the topic
abbrev pub IsShownTopic : Contents → Event → List ℕ × ℕ → Type 0
IsShownTopic access event topic = IsTrue (describes_topic access event topic.0)

-- the bindings let the principal describe the group, or the cluster
abbrev pub IsShownGroup : Contents → Event → List ℕ → Type 0
IsShownGroup access event name =
    IsTrue (describes_cluster access event) ⊎ IsTrue (describes_group access event name)

module _ {P : Type 0} where
  -- a listing of topics has those that are shown, each with its number of partitions, in order
  abbrev pub ListsTopics : Contents → State P → Event → Reply → Type 0
  ListsTopics access s event reply = event.request ≡ metadata_request None
      → (topics : List (List ℕ × ℕ)) × (reply ≡ Done (Topics topics))
      × Lists (IsShownTopic access event) topics (map listed s.topics)

  -- the reply to a request for the groups lists those that are shown, in order of the first commit
  abbrev pub ListsGroups : Contents → State P → Event → Reply → Type 0
  ListsGroups access s event reply = event.request ≡ ListGroups
      → (groups : List (List ℕ)) × (reply ≡ Done (Groups groups))
      × Lists (IsShownGroup access event) groups (group_names s.groups)

module _ {P : Type 0} (m : Meaning P) where
  -- each listing of a run shows what the bindings in force at its place let its principal describe
  abbrev pub EachLists : List Event → State P → Type 0
  EachLists events s = (k : ℕ) (event : Event) (reply : Reply)
      → slice_get events k ≡ Some event → slice_get (replies_of m events s) k ≡ Some reply
      → ListsTopics (in_force_at m events s k) (state_after m (take k events) s) event reply
      × ListsGroups (in_force_at m events s k) (state_after m (take k events) s) event reply

-- what a write asks for: an offset for each record, a serial for each draft, or one producer id
abbrev pub asked_of : Option Write → ℕ
asked_of (Some (Append produce)) = length produce.batch.records
asked_of (Some (AddBindings create)) = length create.drafts
asked_of (Some GiveProducerId) = 1
asked_of (Some (CommitOffset commit)) = 0
asked_of (Some (RemoveGroup delete)) = 0
asked_of (Some (AddTopic create)) = 0
asked_of (Some (RemoveTopic delete)) = 0
asked_of (Some (AdvanceStart delete)) = 0
asked_of (Some (RemoveBindings delete)) = 0
asked_of None = 0

abbrev pub asked_in : List Event → ℕ
asked_in [] = 0
asked_in (event ∷ events) = asked_of (write_of event.request) + asked_in events

-- no offset, producer id or serial is left
abbrev pub is_spent : Reason → Bool
is_spent reasons.OffsetsSpent = true
is_spent reasons.ProducerIdsSpent = true
is_spent reasons.SerialsSpent = true
is_spent reasons.UnknownTopic = false
is_spent reasons.UnknownPartition = false
is_spent reasons.NoRecords = false
is_spent reasons.TooManyRecords = false
is_spent reasons.TooLarge = false
is_spent reasons.OutOfRange = false
is_spent reasons.BadTopicName = false
is_spent reasons.TopicExists = false
is_spent reasons.BadPartitions = false
is_spent reasons.TooManyTopics = false
is_spent reasons.EmptyName = false
is_spent reasons.BadCluster = false
is_spent reasons.NameTooLong = false
is_spent reasons.TooManyBindings = false
is_spent reasons.BadSequence = false
is_spent reasons.UnknownProducer = false
is_spent reasons.OldEpoch = false
is_spent reasons.OutOfOrder = false
is_spent reasons.BadGroupName = false
is_spent reasons.BadOffset = false
is_spent reasons.TooManyGroups = false
is_spent reasons.GroupNotFound = false

-- the reply doesn't say that a limit is spent
abbrev pub SaysNothingSpent : Reply → Type 0
SaysNothingSpent (Refused code reason) = is_spent reason ≡ false
SaysNothingSpent (Denied code verdicts) = Unit {0}
SaysNothingSpent (Done body) = Unit {0}
