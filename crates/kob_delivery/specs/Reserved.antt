-- When bindings leave a name to one principal, and what breaks the premises of the access laws.
use Rattle.std.specs.Prelude.{◌≡◌, ◌==◌, ◌<◌, ◌&&◌, ◌||◌, not, Bool, ℕ, List, [], ◌∷◌, ◌++◌, if◌then◌else◌, length, take, codes, false, filter}
use Rattle.std.specs.List.{AllByRecursion, fold, list_any}
use Rattle.kob_authorizer.specs.Creation.{bindings_of, is_among}
use Rattle.kob_authorizer.specs.Decide.{Contents, is_super}
use Rattle.kob_names.specs.Binding.{Binding, matches, reaches}
use Rattle.kob_names.specs.Filter.{takes}
use Rattle.kob_names.specs.Same.{same_permission, same_resource, same_text}
use Rattle.kob_names.specs.declared.filter.BindingFilter.{BindingFilter}
use Rattle.kob_names.specs.declared.kinds.Operation.{Operation}
use Rattle.kob_names.specs.declared.kinds.Operation.TheVariants.{Read, Write}
use Rattle.kob_names.specs.declared.kinds.Permission.TheVariants.{Allow}
use Rattle.kob_names.specs.declared.kinds.ResourceKind.{ResourceKind}
use Rattle.kob_names.specs.declared.kinds.ResourceKind.TheVariants.{Group, Topic}
use Rattle.kob_rights.specs.declared.request.Request.TheVariants.{CreateAcls, CreateTopics, DeleteAcls, DeleteGroups, DeleteRecords, DeleteTopics, DescribeAcls, Fetch, InitProducerId, ListGroups, ListOffsets, Metadata, OffsetCommit, OffsetFetch, Produce}
use Rattle.kob_shared.specs.Journals.{bindings_after}
use Rattle.kob_delivery.specs.Types.{Denied, Done, Entry, Refused, Reply, Request, Settings}
use Rattle.kob_delivery.specs.View.{ActsAlone, IsFirstBreach, IsReservedFor, NoSuperUser}
use Rattle.kob_delivery.specs.declared.access_rules.RuleFault.{RuleFault}
use Rattle.kob_delivery.specs.declared.access_rules.RuleFault.TheVariants.{Memory, NotReserved, OtherActor, SuperUser}

-- the binding is on the kind of resource, and its pattern matches the name
abbrev pub is_on : ResourceKind → List ℕ → Binding → Bool
is_on resource name binding =
    same_resource binding.resource resource && matches binding.pattern name

-- the bindings in force on the name, in rising serials
abbrev pub bindings_on : ResourceKind → List ℕ → Contents → List Binding
bindings_on resource name access = filter (is_on resource name) (bindings_of access.entries)

-- the binding allows the operation to everyone, or to another than this principal
abbrev pub allows_others : List ℕ → Operation → Binding → Bool
allows_others principal operation binding =
    same_permission binding.permission Allow
    && (reaches Allow binding.operation operation
    && (same_text binding.principal (codes "User:*")
    || not (same_text binding.principal principal)))

-- one of the bindings on a name allows others; or there is none, and such a name is everyone's
abbrev pub is_open_to_others : List ℕ → Operation → Bool → List Binding → Bool
is_open_to_others principal operation everyone bindings =
    list_any (allows_others principal operation) bindings || (everyone && (length bindings == 0))

-- How the bindings on a name follow a journal.

-- one more is created: it is put last if it is on the name and none there is equal to it
abbrev pub with_created : ResourceKind → List ℕ → List Binding → Binding → List Binding
with_created resource name bindings binding =
    if is_on resource name binding && not (is_among bindings binding)
    then bindings ++ binding ∷ [] else bindings

-- those that a filter takes are deleted
abbrev pub without_deleted : BindingFilter → List Binding → List Binding
without_deleted wanted bindings =
    filter (λ (binding : Binding). not (takes wanted binding)) bindings

-- what a request that was done makes of the bindings on the name
abbrev pub after_done : ResourceKind → List ℕ → Request → List Binding → List Binding
after_done resource name (CreateAcls asked) bindings =
    fold (with_created resource name) bindings asked.drafts
after_done resource name (DeleteAcls asked) bindings = without_deleted asked.filter bindings
after_done resource name (Produce asked) bindings = bindings
after_done resource name (Fetch asked) bindings = bindings
after_done resource name (ListOffsets asked) bindings = bindings
after_done resource name (Metadata asked) bindings = bindings
after_done resource name (OffsetCommit asked) bindings = bindings
after_done resource name (OffsetFetch asked) bindings = bindings
after_done resource name ListGroups bindings = bindings
after_done resource name (DeleteGroups asked) bindings = bindings
after_done resource name (CreateTopics asked) bindings = bindings
after_done resource name (DeleteTopics asked) bindings = bindings
after_done resource name (DeleteRecords asked) bindings = bindings
after_done resource name InitProducerId bindings = bindings
after_done resource name (DescribeAcls asked) bindings = bindings

-- what a request with this reply makes of them
abbrev pub after_reply : ResourceKind → List ℕ → Reply → Request → List Binding → List Binding
after_reply resource name (Done body) request bindings =
    after_done resource name request bindings
after_reply resource name (Denied code verdicts) request bindings = bindings
after_reply resource name (Refused code reason) request bindings = bindings

-- the request creates no binding on the name that allows others; and where a name without bindings
-- is everyone's, it deletes none
abbrev pub OpensNothing : List ℕ → Operation → ResourceKind → List ℕ → Bool → Request → Type 0
OpensNothing principal operation resource name everyone (CreateAcls asked) =
    AllByRecursion (λ draft. (is_on resource name draft && allows_others principal operation draft)
    ≡ false) asked.drafts
OpensNothing principal operation resource name everyone (DeleteAcls asked) = everyone ≡ false
OpensNothing principal operation resource name everyone (Produce asked) = Unit {0}
OpensNothing principal operation resource name everyone (Fetch asked) = Unit {0}
OpensNothing principal operation resource name everyone (ListOffsets asked) = Unit {0}
OpensNothing principal operation resource name everyone (Metadata asked) = Unit {0}
OpensNothing principal operation resource name everyone (OffsetCommit asked) = Unit {0}
OpensNothing principal operation resource name everyone (OffsetFetch asked) = Unit {0}
OpensNothing principal operation resource name everyone ListGroups = Unit {0}
OpensNothing principal operation resource name everyone (DeleteGroups asked) = Unit {0}
OpensNothing principal operation resource name everyone (CreateTopics asked) = Unit {0}
OpensNothing principal operation resource name everyone (DeleteTopics asked) = Unit {0}
OpensNothing principal operation resource name everyone (DeleteRecords asked) = Unit {0}
OpensNothing principal operation resource name everyone InitProducerId = Unit {0}
OpensNothing principal operation resource name everyone (DescribeAcls asked) = Unit {0}

-- so it is if it was done
abbrev pub LeavesReserved : List ℕ → Operation → ResourceKind → List ℕ → Bool → Request → Reply
    → Type 0
LeavesReserved principal operation resource name everyone request (Done body) =
    OpensNothing principal operation resource name everyone request
LeavesReserved principal operation resource name everyone request (Denied code verdicts) = Unit {0}
LeavesReserved principal operation resource name everyone request (Refused code reason) = Unit {0}

-- so does an entry
abbrev pub IsReservedBy : List ℕ → Operation → ResourceKind → List ℕ → Bool → Entry → Type 0
IsReservedBy principal operation resource name everyone e =
    LeavesReserved principal operation resource name everyone e.event.request e.reply

-- and so do all entries of a journal
abbrev pub LeaveReserved : List ℕ → Operation → ResourceKind → List ℕ → Bool → List Entry → Type 0
LeaveReserved principal operation resource name everyone =
    AllByRecursion (IsReservedBy principal operation resource name everyone)

-- What breaks a premise.

-- an entry that acts as the principal is the worker's
abbrev pub IsOwnAct : ℕ → List ℕ → Entry → Type 0
IsOwnAct worker principal e = e.event.principal ≡ principal → e.worker ≡ worker

-- an entry of this kind is no super user's
abbrev pub IsNoSuperUsers : List (List ℕ) → (Request → Reply → Type 0) → Entry → Type 0
IsNoSuperUsers supers Kind e =
    Kind e.event.request e.reply → is_super supers e.event.principal ≡ false

-- at the journal's entry with this place the bindings in force don't reserve it, and before it
-- they do
pub record IsFirstUnreserved (opening : Settings) (journal : List Entry) (principal : List ℕ)
    (operation : Operation) (resource : ResourceKind) (name : List ℕ) (place : ℕ) : Type 0 where
  pub within : place < length journal
  pub breaks :
      ¬ (IsReservedFor principal operation resource name
      (bindings_after opening (take place journal)))
  pub before : (k : ℕ) → k < place
      → IsReservedFor principal operation resource name (bindings_after opening (take k journal))

-- the principal alone, as this worker, is to do the operation on the name
pub record Rule : Type 0 where
  pub worker : ℕ
  pub principal : List ℕ
  pub operation : Operation
  pub resource : ResourceKind
  pub name : List ℕ

-- it is to write to the topic
abbrev pub sole_writer : ℕ → List ℕ → List ℕ → Rule
sole_writer worker principal topic = record {
  worker = worker;
  principal = principal;
  operation = Write;
  resource = Topic;
  name = topic;
}

-- it is to read the group
abbrev pub sole_reader : ℕ → List ℕ → List ℕ → Rule
sole_reader worker principal group = record {
  worker = worker;
  principal = principal;
  operation = Read;
  resource = Group;
  name = group;
}

-- the first premise that the journal breaks, with the first entry that does; those before it hold.
-- They are: no other worker acts as the principal, no entry of the kind is a super user's, and the
-- bindings in force reserve the operation on the name
abbrev pub IsRuleFault : Settings → List Entry → Rule → (Request → Reply → Type 0) → RuleFault
    → Type 0
IsRuleFault opening journal rule Kind (OtherActor place) =
    IsFirstBreach (IsOwnAct rule.worker rule.principal) journal place
IsRuleFault opening journal rule Kind (SuperUser place) =
    ActsAlone rule.worker rule.principal journal
    × IsFirstBreach (IsNoSuperUsers opening.supers Kind) journal place
IsRuleFault opening journal rule Kind (NotReserved place) =
    ActsAlone rule.worker rule.principal journal × (NoSuperUser opening.supers Kind journal
    × IsFirstUnreserved opening journal rule.principal rule.operation rule.resource rule.name place)
IsRuleFault opening journal rule Kind (Memory refused) =
    ActsAlone rule.worker rule.principal journal × NoSuperUser opening.supers Kind journal

-- so it is of journals in turn, but that nothing is known where a number does not count the entries
abbrev pub IsRuleFaultInTurn : Settings → List Entry → Rule → (Request → Reply → Type 0) → RuleFault
    → Type 0
IsRuleFaultInTurn opening journal rule Kind (OtherActor place) =
    IsRuleFault opening journal rule Kind (OtherActor place)
IsRuleFaultInTurn opening journal rule Kind (SuperUser place) =
    IsRuleFault opening journal rule Kind (SuperUser place)
IsRuleFaultInTurn opening journal rule Kind (NotReserved place) =
    IsRuleFault opening journal rule Kind (NotReserved place)
IsRuleFaultInTurn opening journal rule Kind (Memory refused) = Unit {0}
