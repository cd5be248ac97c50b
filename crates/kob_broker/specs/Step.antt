-- What a broker does: one event is one step; what a prepared change does, and when it can be made.
use Rattle.std.specs.Prelude.{◌≡◌, ◌≢◌, ◌<◌, ◌≤◌, ◌+◌, ◌++◌, true, [], ◌∷◌, ℕ, Bool, List, Option, Some, None}
use Rattle.kob_groups.specs.Kept.{groups_of}
use Rattle.kob_broker.specs.Batches.{produce_left}
use Rattle.kob_broker.specs.Records.{producer_limit, code_of, delete_records_after, delete_records_reasons, fetch_reasons, fetched_at, init_producer_reasons, judged_at, offset_at, offset_told, produce_after, produce_reasons, start_after}
use Rattle.kob_broker.specs.State.{Event, Reply, Request, State, has_partition, topic_map, with_partition, Meaning, Reason, Settings, Topic, open_state, partition_of, state_map, with_bindings, CanCreate, with_creation, CanDelete, without_taken, bindings_taken, CanAdd, catalog_log, kept_of, topics_of, CanAppend, Retained, retained_meaning, Plain, plain_meaning, retained_of, AddBindings, AddTopic, AdvanceStart, Append, CommitOffset, GiveProducerId, RemoveBindings, RemoveGroup, RemoveTopic, Write, partition_named, write_of}
use Rattle.kob_broker.specs.Topics.{delete_topics_after, create_topics_after, create_topics_reasons, delete_topics_reasons, metadata_of, metadata_reasons, metadata_request}
pub use Rattle.kob_broker.specs.declared.broker.Broker.{Broker}
use Rattle.kob_broker.specs.declared.prepared.Change.{Change}
use Rattle.kob_broker.specs.declared.prepared.Prepared.{Prepared}
use Rattle.kob_rights.specs.declared.reply.Body.{Body}
pub use Rattle.kob_rights.specs.declared.request.Request.TheVariants.{Produce, Fetch, ListOffsets, Metadata, OffsetCommit, OffsetFetch, ListGroups, DeleteGroups, CreateTopics, DeleteTopics, DeleteRecords, InitProducerId, DescribeAcls, CreateAcls, DeleteAcls}
use Rattle.std.specs.List.{enumerate_from, flat_map}
use Rattle.kob_broker.specs.Bindings.{create_acls_reasons, created_serials, draft_reasons}
use Rattle.kob_broker.specs.Denial.{Done, Refused, denial_of, end_at, first_reason, named_reasons}
use Rattle.kob_broker.specs.Groups.{delete_groups_reasons, groups_shown, offset_commit_after, offset_commit_reasons, offset_committed, offset_fetch_reasons}
use Rattle.kob_groups.specs.Groups as groups
use Rattle.kob_groups.specs.Kept as groups_kept
use Rattle.kob_broker.specs.declared.prepared.Change.TheVariants as changes
use Rattle.kob_rights.specs.declared.reply.Body.TheVariants as bodies
use Rattle.kob_rights.specs.declared.on_partitions.Fetch as asked
use Rattle.kob_partition.specs.Meaning.{Lent}

-- The tables say what each kind of request does.

-- a reply, and the state that it leaves
pub record Outcome (P : Type 0) : Type 0 where
  pub reply : Reply
  pub state : State P

module _ {P : Type 0} where
  -- the partition of that number of the topic of that name, if there is one
  abbrev pub partition_in : List (Topic P) → Option (List ℕ × ℕ) → Option P
  partition_in topics None = None
  partition_in topics (Some name) = partition_of name.0 name.1 topics

  -- the partition that a request names, if there is one
  abbrev pub named : State P → Request → Option P
  named s request = partition_in s.topics (partition_named request)

module _ {P : Type 0} (m : Meaning P) where
  -- the reasons to refuse a request, in order, each with whether it holds
  abbrev pub reasons_against : State P → Option P → Request → List (Bool × Reason)
  reasons_against s found (Produce produce) = produce_reasons m s found produce
  reasons_against s found (Fetch fetch) = fetch_reasons m s found fetch
  reasons_against s found (ListOffsets asked) = named_reasons asked.topic s.topics found
  reasons_against s found (Metadata asked) = metadata_reasons s.topics asked.topic
  reasons_against s found (OffsetCommit commit) = offset_commit_reasons s found commit
  reasons_against s found (OffsetFetch asked) = offset_fetch_reasons asked
  reasons_against s found (DeleteGroups delete) = delete_groups_reasons s.groups delete
  reasons_against s found (CreateTopics create) = create_topics_reasons m s create
  reasons_against s found (DeleteTopics delete) = delete_topics_reasons s delete
  reasons_against s found (DeleteRecords delete) = delete_records_reasons m s found delete
  reasons_against s found InitProducerId = init_producer_reasons s.next_producer
  reasons_against s found (CreateAcls create) = create_acls_reasons s.access create
  reasons_against s found ListGroups = []
  reasons_against s found (DescribeAcls asked) = []
  reasons_against s found (DeleteAcls delete) = []

  -- the body of the reply to an event whose request is done
  abbrev pub body : State P → Option P → Event → Request → Body
  body s found event (Produce produce) =
      bodies.Offset (offset_told (judged_at m found produce.batch) (end_at m found))
  body s found event (Fetch fetch) = bodies.Records (fetched_at m found fetch)
  body s found event (ListOffsets asked) = bodies.Offset (offset_at m found asked.which)
  body s found event (Metadata asked) =
      bodies.Topics (metadata_of s.access event s.topics asked.topic)
  body s found event (OffsetCommit commit) = bodies.Committed
  body s found event (OffsetFetch asked) = bodies.Commit (offset_committed s.groups asked)
  body s found event ListGroups =
      bodies.Groups (groups_shown s.access event (groups.group_names s.groups))
  body s found event (DeleteGroups delete) = bodies.Deleted
  body s found event (CreateTopics create) = bodies.Created
  body s found event (DeleteTopics delete) = bodies.Deleted
  body s found event (DeleteRecords delete) = bodies.Start (start_after m found delete.before)
  body s found event InitProducerId = bodies.Producer s.next_producer 0
  body s found event (DescribeAcls asked) =
      bodies.Bindings (bindings_taken asked.filter s.access.entries)
  body s found event (CreateAcls create) = bodies.Serials (created_serials s.access create)
  body s found event (DeleteAcls delete) =
      bodies.Bindings (bindings_taken delete.filter s.access.entries)

  -- the state that it leaves; a request of a kind that only reads leaves the state as it was
  abbrev pub after_write : State P → Option P → Option Write → State P
  after_write s found None = s
  after_write s found (Some (Append produce)) = produce_after m s found produce
  after_write s found (Some (CommitOffset commit)) = offset_commit_after s commit
  after_write s found (Some (RemoveGroup delete)) =
      record s { groups = groups.without_group delete.group s.groups }
  after_write s found (Some (AddTopic create)) = create_topics_after m s create
  after_write s found (Some (RemoveTopic delete)) = delete_topics_after s delete.name
  after_write s found (Some (AdvanceStart delete)) = delete_records_after m s found delete
  after_write s found (Some GiveProducerId) = record s { next_producer = s.next_producer + 1 }
  after_write s found (Some (AddBindings create)) =
      record s { access = with_bindings create.drafts s.access }
  after_write s found (Some (RemoveBindings delete)) =
      record s { access = without_taken delete.filter s.access }

  abbrev pub after : State P → Option P → Request → State P
  after s found request = after_write s found (write_of request)

  abbrev pub refusal : State P → Request → Option Reason
  refusal s request = first_reason (reasons_against s (named s request) request)

  -- refused for the first reason that holds, or else done; `event` says who asks
  abbrev pub effect_by : Option Reason → State P → Option P → Event → Request → Outcome P
  effect_by (Some reason) s found event request =
      record { reply = Refused (code_of reason) reason; state = s }
  effect_by None s found event request =
      record { reply = Done (body s found event request); state = after s found request }

  abbrev pub effect : State P → Event → Request → Outcome P
  effect s event request = effect_by (refusal s request) s (named s request) event request

  -- denied with the state as it was, otherwise the request's effect
  abbrev pub step_by : Option Reply → State P → Event → Outcome P
  step_by (Some denial) s event = record { reply = denial; state = s }
  step_by None s event = effect s event event.request

  abbrev pub step : State P → Event → Outcome P
  step s event = step_by (denial_of s.access event) s event

  -- a request whose rights are granted may need memory: it is not of a kind that is answered in
  -- place, and no reason holds that is looked for before anything is allocated. New bindings are
  -- copied before they are counted
  abbrev pub NeedsMemory : State P → Request → Type 0
  NeedsMemory s (Produce produce) = refusal s (Produce produce) ≡ None
  NeedsMemory s (Fetch fetch) = refusal s (Fetch fetch) ≡ None
  NeedsMemory s (ListOffsets asked) = ⊥
  NeedsMemory s (Metadata asked) = refusal s (Metadata asked) ≡ None
  NeedsMemory s (OffsetCommit commit) = refusal s (OffsetCommit commit) ≡ None
  NeedsMemory s (OffsetFetch asked) = ⊥
  NeedsMemory s ListGroups = Unit {0}
  NeedsMemory s (DeleteGroups delete) = refusal s (DeleteGroups delete) ≡ None
  NeedsMemory s (CreateTopics create) = refusal s (CreateTopics create) ≡ None
  NeedsMemory s (DeleteTopics delete) = refusal s (DeleteTopics delete) ≡ None
  NeedsMemory s (DeleteRecords delete) = refusal s (DeleteRecords delete) ≡ None
  NeedsMemory s InitProducerId = ⊥
  NeedsMemory s (DescribeAcls asked) = Unit {0}
  NeedsMemory s (CreateAcls create) = first_reason (flat_map draft_reasons create.drafts) ≡ None
  NeedsMemory s (DeleteAcls delete) = Unit {0}

  -- an event may need memory: for the verdicts of a denial, or where its request may need it
  abbrev pub MayRunOut : State P → Event → Type 0
  MayRunOut s event = denial_of s.access event ≡ None → NeedsMemory s event.request

  -- what is left of a request that is served by taking: its batch goes, if it is appended
  abbrev pub request_left : State P → Request → Request
  request_left s (Produce produce) =
      Produce (produce_left (refusal s (Produce produce))
      (judged_at m (named s (Produce produce)) produce.batch) produce)
  request_left s request = request

  -- what is left of its event
  abbrev pub event_left_by : Option Reply → State P → Event → Event
  event_left_by (Some denial) s event = event
  event_left_by None s event = record event { request = request_left s event.request }

  abbrev pub event_left : State P → Event → Event
  event_left s event = event_left_by (denial_of s.access event) s event

  -- the replies to events, one after another
  abbrev pub replies_of : List Event → State P → List Reply
  replies_of [] s = []
  replies_of (event ∷ events) s = (step s event).reply ∷ replies_of events (step s event).state

  -- the state after them
  abbrev pub state_after : List Event → State P → State P
  state_after [] s = s
  state_after (event ∷ events) s = state_after events (step s event).state

-- Records that are lent, and not copied.

-- a FETCH that is done tells these records, and leaves the state as it was
abbrev pub lent_outcome : State Retained → Lent → Outcome Retained
lent_outcome s lent = record {
  reply = Done (bodies.Records (enumerate_from lent.first lent.records));
  state = s;
}

-- what a FETCH tells that is done, and nothing for any other event
abbrev pub IsLent : State Retained → Event → Option Lent → Type 0
IsLent s event (Some lent) = step retained_meaning s event ≡ lent_outcome s lent
IsLent s event None =
    (fetch : asked.Fetch) → event.request ≡ Fetch fetch → (body : Body)
    → (step retained_meaning s event).reply ≢ Done body

-- the topics that a METADATA of all tells, and nothing for any other event
abbrev pub AreLentTopics : State Retained → Event → Option (List (List ℕ × ℕ)) → Type 0
AreLentTopics s event (Some topics) =
    step retained_meaning s event ≡ record { reply = Done (bodies.Topics topics); state = s }
AreLentTopics s event None = event.request ≢ metadata_request None

-- what a fresh broker keeps of no batches is what a fresh broker over all accepted batches has
abbrev pub OpensAlike : Settings → Type 0
OpensAlike settings = state_map retained_of (open_state settings) ≡ open_state settings

-- the same reply, and the state of which the same is kept
pub record StepsAlike (s : State Plain) (event : Event) : Type 0 where
  pub reply :
      (step retained_meaning (state_map retained_of s) event).reply
      ≡ (step plain_meaning s event).reply
  pub state :
      (step retained_meaning (state_map retained_of s) event).state
      ≡ state_map retained_of (step plain_meaning s event).state

pub record RunsAlike (s : State Plain) (events : List Event) : Type 0 where
  pub replies :
      replies_of retained_meaning events (state_map retained_of s)
      ≡ replies_of plain_meaning events s
  pub state :
      state_after retained_meaning events (state_map retained_of s)
      ≡ state_map retained_of (state_after plain_meaning events s)

-- What a prepared change does, and when there is room for it.

-- the state of a broker: what it holds, without the room that is there for more
abbrev pub state_of : Broker → State Retained
state_of broker = record {
  topics = topics_of broker.catalog;
  groups = groups_of broker.groups;
  access = broker.authorizer.contents;
  next_producer = broker.next_producer;
}

-- the state after a change
abbrev pub state_after_change : Change → Broker → State Retained
state_after_change changes.Unchanged broker = state_of broker
state_after_change (changes.AddTopic made) broker =
    record (state_of broker) { topics = topics_of broker.catalog ++ topic_map kept_of made ∷ [] }
state_after_change (changes.RemoveTopic name) broker = delete_topics_after (state_of broker) name
state_after_change (changes.AddBindings made) broker =
    record (state_of broker) { access = with_creation broker.authorizer.contents made }
state_after_change (changes.RemoveBindings made) broker =
    record (state_of broker) { access = without_taken made.value.filter broker.authorizer.contents }
state_after_change (changes.Append produce) broker = record (state_of broker) {
  topics =
      with_partition produce.topic produce.partition
      (retained_meaning.append (catalog_log broker.catalog produce.topic produce.partition).kept
      produce.batch)
      (topics_of broker.catalog);
}
state_after_change (changes.AdvanceStart topic partition offset) broker = record (state_of broker) {
  topics =
      with_partition topic partition
      (retained_meaning.advance (catalog_log broker.catalog topic partition).kept offset)
      (topics_of broker.catalog);
}
state_after_change (changes.Commit made) broker = record (state_of broker) {
  groups =
      groups.with_commit (groups_kept.place_in made broker.groups) made.offset
      (groups_of broker.groups);
}
state_after_change (changes.RemoveGroup name) broker =
    record (state_of broker) { groups = groups.without_group name (groups_of broker.groups) }
state_after_change changes.GiveProducer broker =
    record (state_of broker) { next_producer = broker.next_producer + 1 }

-- there is room for the change, and its place is there
abbrev pub CanMake : Change → Broker → Type 0
CanMake changes.Unchanged broker = Unit {0}
CanMake (changes.AddTopic made) broker = CanAdd made broker.catalog
CanMake (changes.RemoveTopic name) broker = Unit {0}
CanMake (changes.AddBindings made) broker = CanCreate made broker.authorizer
CanMake (changes.RemoveBindings made) broker = CanDelete made.value broker.authorizer
CanMake (changes.Append produce) broker =
    (has_partition produce.topic produce.partition (topics_of broker.catalog) ≡ true)
    × CanAppend (catalog_log broker.catalog produce.topic produce.partition) produce.batch
CanMake (changes.AdvanceStart topic partition offset) broker =
    (has_partition topic partition (topics_of broker.catalog) ≡ true)
    × (offset ≤ (catalog_log broker.catalog topic partition).kept.end)
CanMake (changes.Commit made) broker = groups_kept.CanCommit made broker.groups
CanMake (changes.RemoveGroup name) broker = groups.has_group name (groups_of broker.groups) ≡ true
CanMake changes.GiveProducer broker = broker.next_producer < producer_limit

-- the reply that is prepared, the state that its change leaves, and that there is room for it
abbrev pub reply_of : Prepared → Reply
reply_of prepared = prepared.reply

abbrev pub state_with : Prepared → Broker → State Retained
state_with prepared broker = state_after_change prepared.change broker

abbrev pub IsReady : Prepared → Broker → Type 0
IsReady prepared broker = CanMake prepared.change broker

-- what is prepared makes that outcome, and there is room for it
pub record Makes (outcome : Outcome Retained) (broker : Broker) (prepared : Prepared) : Type 0 where
  pub same_reply : reply_of prepared ≡ outcome.reply
  pub same_state : state_with prepared broker ≡ outcome.state
  pub ready : IsReady prepared broker

-- what is prepared makes the effect of the request, whoever asks
abbrev pub MakesFor : Request → Broker → Prepared → Type 0
MakesFor request broker prepared = (event : Event)
    → Makes (effect retained_meaning (state_of broker) event request) broker prepared
