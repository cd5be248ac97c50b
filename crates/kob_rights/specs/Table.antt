-- The operation table (Kafka's documentation, "Authorization and ACLs"), and the codes of denials.
use Rattle.std.specs.Prelude.{List, ℕ, codes, [], ◌∷◌, Option, Some, None, slice_index_or}
use Rattle.kob_names.specs.declared.kinds.Operation.{Operation}
use Rattle.kob_names.specs.declared.kinds.ResourceKind.{ResourceKind}
use Rattle.kob_names.specs.declared.kinds.ResourceKind.TheVariants.{Topic, Group, Cluster, TransactionalId}
use Rattle.kob_names.specs.declared.batch.Idem.{Idem}
use Rattle.kob_names.specs.declared.kinds.Operation.TheVariants.{Read, Write, Create, Delete, Alter, Describe, IdempotentWrite}
use Rattle.kob_rights.specs.declared.check.Clause.{Clause}
use Rattle.kob_rights.specs.declared.check.Clause.TheVariants.{Only, Either}
use Rattle.kob_rights.specs.declared.check.Rights.{Rights}
use Rattle.kob_rights.specs.declared.check.Rights.TheVariants.{Free, One, Both}
use Rattle.kob_rights.specs.declared.code.Code.{Code}
use Rattle.kob_rights.specs.declared.code.Code.TheVariants.{TopicAuthorizationFailed, GroupAuthorizationFailed, ClusterAuthorizationFailed}
use Rattle.kob_rights.specs.declared.request.Request.{Request}
use Rattle.kob_rights.specs.declared.request.Request.TheVariants.{Produce, Fetch, ListOffsets, Metadata, OffsetCommit, OffsetFetch, ListGroups, DeleteGroups, CreateTopics, DeleteTopics, DeleteRecords, InitProducerId, DescribeAcls, CreateAcls, DeleteAcls}
use Rattle.kob_rights.specs.declared.check.Check as program

-- one alternative of a clause: an operation on a resource
pub record Check : Type 0 where
  pub operation : Operation
  pub resource : ResourceKind
  pub name : List ℕ

-- the one name of the cluster
abbrev pub cluster_name : List ℕ
cluster_name = codes "kafka-cluster"

abbrev pub on_topic : Operation → List ℕ → Check
on_topic operation name = record { operation = operation; resource = Topic; name = name }

abbrev pub on_group : Operation → List ℕ → Check
on_group operation name = record { operation = operation; resource = Group; name = name }

abbrev pub on_cluster : Operation → Check
on_cluster operation = record { operation = operation; resource = Cluster; name = cluster_name }

-- the alternative, with the text in place of the reference to it
abbrev pub check_view : program.Check → Check
check_view check =
    record { operation = check.operation; resource = check.resource; name = check.name.now }

abbrev pub clause_view : Clause → List Check
clause_view (Only check) = check_view check ∷ []
clause_view (Either first second) = check_view first ∷ check_view second ∷ []

abbrev pub rights_view : Rights → List (List Check)
rights_view Free = []
rights_view (One clause) = clause_view clause ∷ []
rights_view (Both first second) = clause_view first ∷ clause_view second ∷ []

-- an idempotent producer needs a right on the cluster first
abbrev pub produce_rights : Option Idem → List ℕ → List (List Check)
produce_rights None topic = (on_topic Write topic ∷ []) ∷ []
produce_rights (Some idem) topic =
    (on_cluster IdempotentWrite ∷ []) ∷ (on_topic Write topic ∷ []) ∷ []

-- the listing of all topics needs no right, and is filtered
abbrev pub metadata_rights : Option (List ℕ) → List (List Check)
metadata_rights None = []
metadata_rights (Some topic) = (on_topic Describe topic ∷ []) ∷ []

-- the clauses of a request, each a list of alternatives
abbrev pub rights : Request → List (List Check)
rights (Produce produce) = produce_rights produce.batch.idem produce.topic
rights (Fetch fetch) = (on_topic Read fetch.topic ∷ []) ∷ []
rights (ListOffsets asked) = (on_topic Describe asked.topic ∷ []) ∷ []
rights (Metadata asked) = metadata_rights asked.topic
rights (OffsetCommit commit) =
    (on_group Read commit.group ∷ []) ∷ (on_topic Read commit.topic ∷ []) ∷ []
rights (OffsetFetch asked) =
    (on_group Describe asked.group ∷ []) ∷ (on_topic Describe asked.topic ∷ []) ∷ []
rights ListGroups = []
rights (DeleteGroups delete) = (on_group Delete delete.group ∷ []) ∷ []
rights (CreateTopics create) = (on_cluster Create ∷ on_topic Create create.name ∷ []) ∷ []
rights (DeleteTopics delete) = (on_topic Delete delete.name ∷ []) ∷ []
rights (DeleteRecords delete) = (on_topic Delete delete.topic ∷ []) ∷ []
rights InitProducerId = (on_cluster IdempotentWrite ∷ []) ∷ []
rights (DescribeAcls asked) = (on_cluster Describe ∷ []) ∷ []
rights (CreateAcls create) = (on_cluster Alter ∷ []) ∷ []
rights (DeleteAcls delete) = (on_cluster Alter ∷ []) ∷ []

-- the code of a denial on a kind of resource; no request asks for a transactional id
abbrev pub code_on : ResourceKind → Code
code_on Topic = TopicAuthorizationFailed
code_on Group = GroupAuthorizationFailed
code_on Cluster = ClusterAuthorizationFailed
code_on TransactionalId = TopicAuthorizationFailed

-- the code on the last alternative of a clause, and the given one if there is none
abbrev pub code_on_last : Code → List Check → Code
code_on_last code [] = code
code_on_last code (check ∷ checks) = code_on_last (code_on check.resource) checks

-- the code of a denial by the clause at a place: that of the resource of its last alternative
abbrev pub denial_code : Request → ℕ → Code
denial_code request place =
    code_on_last TopicAuthorizationFailed (slice_index_or (rights request) place [])
