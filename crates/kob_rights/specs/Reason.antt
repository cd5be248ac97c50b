-- Kafka's error codes with numbers and names, and the reasons to refuse a request with theirs.
use Rattle.std.specs.Prelude.{List, ℕ, codes}
use Rattle.kob_rights.specs.declared.code.Code.{Code}
use Rattle.kob_rights.specs.declared.code.Code.TheVariants.{UnknownTopicOrPartition, InvalidRequest, MessageTooLarge, OffsetOutOfRange, InvalidTopicException, TopicAlreadyExists, InvalidPartitions, UnknownProducerId, InvalidProducerEpoch, OutOfOrderSequenceNumber, InvalidGroupId, GroupIdNotFound, TopicAuthorizationFailed, GroupAuthorizationFailed, ClusterAuthorizationFailed}
use Rattle.kob_rights.specs.declared.reason.Reason.{Reason}
use Rattle.kob_rights.specs.declared.reason.Reason.TheVariants.{UnknownTopic, UnknownPartition, NoRecords, TooManyRecords, TooLarge, OffsetsSpent, OutOfRange, BadTopicName, TopicExists, BadPartitions, TooManyTopics, EmptyName, BadCluster, NameTooLong, TooManyBindings, SerialsSpent, BadSequence, UnknownProducer, OldEpoch, OutOfOrder, BadGroupName, BadOffset, TooManyGroups, GroupNotFound, ProducerIdsSpent}

abbrev pub code_number : Code → ℕ
code_number OffsetOutOfRange = 1
code_number UnknownTopicOrPartition = 3
code_number MessageTooLarge = 10
code_number InvalidTopicException = 17
code_number InvalidGroupId = 24
code_number TopicAuthorizationFailed = 29
code_number GroupAuthorizationFailed = 30
code_number ClusterAuthorizationFailed = 31
code_number TopicAlreadyExists = 36
code_number InvalidPartitions = 37
code_number InvalidRequest = 42
code_number OutOfOrderSequenceNumber = 45
code_number InvalidProducerEpoch = 47
code_number UnknownProducerId = 59
code_number GroupIdNotFound = 69

abbrev pub code_name : Code → List ℕ
code_name OffsetOutOfRange = codes "OFFSET_OUT_OF_RANGE"
code_name UnknownTopicOrPartition = codes "UNKNOWN_TOPIC_OR_PARTITION"
code_name MessageTooLarge = codes "MESSAGE_TOO_LARGE"
code_name InvalidTopicException = codes "INVALID_TOPIC_EXCEPTION"
code_name InvalidGroupId = codes "INVALID_GROUP_ID"
code_name TopicAuthorizationFailed = codes "TOPIC_AUTHORIZATION_FAILED"
code_name GroupAuthorizationFailed = codes "GROUP_AUTHORIZATION_FAILED"
code_name ClusterAuthorizationFailed = codes "CLUSTER_AUTHORIZATION_FAILED"
code_name TopicAlreadyExists = codes "TOPIC_ALREADY_EXISTS"
code_name InvalidPartitions = codes "INVALID_PARTITIONS"
code_name InvalidRequest = codes "INVALID_REQUEST"
code_name OutOfOrderSequenceNumber = codes "OUT_OF_ORDER_SEQUENCE_NUMBER"
code_name InvalidProducerEpoch = codes "INVALID_PRODUCER_EPOCH"
code_name UnknownProducerId = codes "UNKNOWN_PRODUCER_ID"
code_name GroupIdNotFound = codes "GROUP_ID_NOT_FOUND"

-- each reason has one code
abbrev pub code_of : Reason → Code
code_of UnknownTopic = UnknownTopicOrPartition
code_of UnknownPartition = UnknownTopicOrPartition
code_of TooLarge = MessageTooLarge
code_of OutOfRange = OffsetOutOfRange
code_of BadTopicName = InvalidTopicException
code_of TopicExists = TopicAlreadyExists
code_of BadPartitions = InvalidPartitions
code_of UnknownProducer = UnknownProducerId
code_of OldEpoch = InvalidProducerEpoch
code_of OutOfOrder = OutOfOrderSequenceNumber
code_of BadGroupName = InvalidGroupId
code_of GroupNotFound = GroupIdNotFound
code_of NoRecords = InvalidRequest
code_of TooManyRecords = InvalidRequest
code_of OffsetsSpent = InvalidRequest
code_of TooManyTopics = InvalidRequest
code_of EmptyName = InvalidRequest
code_of BadCluster = InvalidRequest
code_of NameTooLong = InvalidRequest
code_of TooManyBindings = InvalidRequest
code_of SerialsSpent = InvalidRequest
code_of BadSequence = InvalidRequest
code_of BadOffset = InvalidRequest
code_of TooManyGroups = InvalidRequest
code_of ProducerIdsSpent = InvalidRequest

abbrev pub reason_name : Reason → List ℕ
reason_name UnknownTopic = codes "UnknownTopic"
reason_name UnknownPartition = codes "UnknownPartition"
reason_name NoRecords = codes "NoRecords"
reason_name TooManyRecords = codes "TooManyRecords"
reason_name TooLarge = codes "TooLarge"
reason_name OffsetsSpent = codes "OffsetsSpent"
reason_name OutOfRange = codes "OutOfRange"
reason_name BadTopicName = codes "BadTopicName"
reason_name TopicExists = codes "TopicExists"
reason_name BadPartitions = codes "BadPartitions"
reason_name TooManyTopics = codes "TooManyTopics"
reason_name EmptyName = codes "EmptyName"
reason_name BadCluster = codes "BadCluster"
reason_name NameTooLong = codes "NameTooLong"
reason_name TooManyBindings = codes "TooManyBindings"
reason_name SerialsSpent = codes "SerialsSpent"
reason_name BadSequence = codes "BadSequence"
reason_name UnknownProducer = codes "UnknownProducer"
reason_name OldEpoch = codes "OldEpoch"
reason_name OutOfOrder = codes "OutOfOrder"
reason_name BadGroupName = codes "BadGroupName"
reason_name BadOffset = codes "BadOffset"
reason_name TooManyGroups = codes "TooManyGroups"
reason_name GroupNotFound = codes "GroupNotFound"
reason_name ProducerIdsSpent = codes "ProducerIdsSpent"
