-- What requests name and write, and what their replies hold.
use Rattle.std.specs.Prelude.{◌<◌, ◌≤◌, ℕ, IfSome, List, Option, Some, None}
use Rattle.std.specs.List.{All}
use Rattle.kob_names.specs.declared.record.Record.{Record}
use Rattle.kob_rights.specs.declared.on_acls.CreateAcls.{CreateAcls}
use Rattle.kob_rights.specs.declared.on_acls.DeleteAcls.{DeleteAcls}
use Rattle.kob_rights.specs.declared.on_groups.DeleteGroups.{DeleteGroups}
use Rattle.kob_rights.specs.declared.on_groups.OffsetCommit.{OffsetCommit}
use Rattle.kob_rights.specs.declared.on_partitions.DeleteRecords.{DeleteRecords}
use Rattle.kob_rights.specs.declared.on_partitions.Produce.{Produce}
use Rattle.kob_rights.specs.declared.on_topics.CreateTopics.{CreateTopics}
use Rattle.kob_rights.specs.declared.on_topics.DeleteTopics.{DeleteTopics}
use Rattle.kob_rights.specs.declared.reply.Body.{Body}
use Rattle.kob_rights.specs.declared.reply.Body.TheVariants as bodies
use Rattle.kob_rights.specs.declared.reply.Reply.{Reply}
use Rattle.kob_rights.specs.declared.reply.Reply.TheVariants.{Denied, Done, Refused}
use Rattle.kob_rights.specs.declared.request.Request.{Request}
use Rattle.kob_rights.specs.declared.request.Request.TheVariants as requests

-- the body is that of the request's kind
abbrev pub IsBodyOf : Request → Body → Type 0
IsBodyOf (requests.Produce produce) (bodies.Offset offset) = Unit {0}
IsBodyOf (requests.Fetch fetch) (bodies.Records records) = Unit {0}
IsBodyOf (requests.ListOffsets asked) (bodies.Offset offset) = Unit {0}
IsBodyOf (requests.Metadata asked) (bodies.Topics topics) = Unit {0}
IsBodyOf (requests.OffsetCommit commit) bodies.Committed = Unit {0}
IsBodyOf (requests.OffsetFetch asked) (bodies.Commit offset) = Unit {0}
IsBodyOf requests.ListGroups (bodies.Groups groups) = Unit {0}
IsBodyOf (requests.DeleteGroups delete) bodies.Deleted = Unit {0}
IsBodyOf (requests.CreateTopics create) bodies.Created = Unit {0}
IsBodyOf (requests.DeleteTopics delete) bodies.Deleted = Unit {0}
IsBodyOf (requests.DeleteRecords delete) (bodies.Start start) = Unit {0}
IsBodyOf requests.InitProducerId (bodies.Producer id epoch) = Unit {0}
IsBodyOf (requests.DescribeAcls asked) (bodies.Bindings bindings) = Unit {0}
IsBodyOf (requests.CreateAcls create) (bodies.Serials serials) = Unit {0}
IsBodyOf (requests.DeleteAcls delete) (bodies.Bindings bindings) = Unit {0}
IsBodyOf request body = ⊥

-- what is done is answered with the body of its request
abbrev pub Fits : Request → Reply → Type 0
Fits request (Done body) = IsBodyOf request body
Fits request reply = Unit {0}

-- the greatest offset: Kafka's offsets are signed 64-bit numbers
abbrev pub greatest_offset : ℕ
greatest_offset = 9223372036854775807

-- an offset may be the end of a log, and a record's offset lies below the end
abbrev pub BodyWithin : Body → Type 0
BodyWithin (bodies.Offset offset) = offset ≤ greatest_offset
BodyWithin (bodies.Start offset) = offset ≤ greatest_offset
BodyWithin (bodies.Commit committed) = IfSome committed (λ offset. offset ≤ greatest_offset)
BodyWithin (bodies.Records records) =
    All (λ (entry : ℕ × Record). entry.0 < greatest_offset) records
BodyWithin (bodies.Topics topics) = Unit {0}
BodyWithin (bodies.Groups groups) = Unit {0}
BodyWithin (bodies.Producer id epoch) = Unit {0}
BodyWithin (bodies.Bindings bindings) = Unit {0}
BodyWithin (bodies.Serials serials) = Unit {0}
BodyWithin bodies.Committed = Unit {0}
BodyWithin bodies.Created = Unit {0}
BodyWithin bodies.Deleted = Unit {0}

-- every offset in what is done is within the limit
abbrev pub OffsetsWithin : Reply → Type 0
OffsetsWithin (Done body) = BodyWithin body
OffsetsWithin (Denied code verdicts) = Unit {0}
OffsetsWithin (Refused code reason) = Unit {0}

-- the topic's name and the partition's number, if the request needs that partition to be there
abbrev pub partition_named : Request → Option (List ℕ × ℕ)
partition_named (requests.Produce produce) = Some (produce.topic, produce.partition)
partition_named (requests.Fetch fetch) = Some (fetch.topic, fetch.partition)
partition_named (requests.ListOffsets asked) = Some (asked.topic, asked.partition)
partition_named (requests.OffsetCommit commit) = Some (commit.topic, commit.partition)
partition_named (requests.DeleteRecords delete) = Some (delete.topic, delete.partition)
partition_named (requests.Metadata asked) = None
partition_named (requests.OffsetFetch asked) = None
partition_named requests.ListGroups = None
partition_named (requests.DeleteGroups delete) = None
partition_named (requests.CreateTopics create) = None
partition_named (requests.DeleteTopics delete) = None
partition_named requests.InitProducerId = None
partition_named (requests.DescribeAcls asked) = None
partition_named (requests.CreateAcls create) = None
partition_named (requests.DeleteAcls delete) = None

-- a request of a kind that writes
pub data Write : Type 0 where
  Append : Produce → Write
  CommitOffset : OffsetCommit → Write
  RemoveGroup : DeleteGroups → Write
  AddTopic : CreateTopics → Write
  RemoveTopic : DeleteTopics → Write
  AdvanceStart : DeleteRecords → Write
  GiveProducerId : Write
  AddBindings : CreateAcls → Write
  RemoveBindings : DeleteAcls → Write

-- what the request writes; the other kinds only read
abbrev pub write_of : Request → Option Write
write_of (requests.Produce produce) = Some (Append produce)
write_of (requests.OffsetCommit commit) = Some (CommitOffset commit)
write_of (requests.DeleteGroups delete) = Some (RemoveGroup delete)
write_of (requests.CreateTopics create) = Some (AddTopic create)
write_of (requests.DeleteTopics delete) = Some (RemoveTopic delete)
write_of (requests.DeleteRecords delete) = Some (AdvanceStart delete)
write_of requests.InitProducerId = Some GiveProducerId
write_of (requests.CreateAcls create) = Some (AddBindings create)
write_of (requests.DeleteAcls delete) = Some (RemoveBindings delete)
write_of (requests.Fetch fetch) = None
write_of (requests.ListOffsets asked) = None
write_of (requests.Metadata asked) = None
write_of (requests.OffsetFetch asked) = None
write_of requests.ListGroups = None
write_of (requests.DescribeAcls asked) = None
