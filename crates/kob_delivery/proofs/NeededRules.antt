-- Each premise of the access laws is needed: without it another than the worker sends to the topic, or commits for the
-- group. So is each premise of the law that a reservation lasts.
use Rattle.kob_delivery.proofs.ExampleWords.{ActsAlone, AllByRecursion, Commits, CreateAcls, CreateTopics, DeleteAcls, Done, Entry, Group, IsLegal, IsReserved, IsReservedFor, IsSoleCommitter, IsSoleProducer, LeavesReserved, List, NoSuperUser, None, OffsetCommit, Operation, Produce, Produces, Read, Request, ResourceKind, Retained, Settings, State, Topic, Write, [], and_parts, ap, arith, bindings_after, codes, get_or, nat_tests, opened_by, refl, standing_after, suc, true, true≢false, zero, ℕ, ◌∷◌, ◌≡◌}
use Rattle.kob_rights.specs.declared.reply.Body.TheVariants as bodies
use Rattle.kob_names.specs.declared.filter.FilterPattern.TheVariants as patterns
use Rattle.kob_delivery.proofs.ReservedExample.{admin, allow, entry, group, journal, legal, no_super_commits, no_super_writes, now, reader, reserved_to_read, reserved_to_write, settings, topic, writer, writes}
use Rattle.kob_delivery.proofs.Example.{never}

-- a principal that no entry acts as
abbrev nobody : List ℕ
nobody = codes "User:n"

nobody_acts : (worker : ℕ) → ActsAlone worker nobody journal
nobody_acts worker = grind (arith, nat_tests)

differ : (a b : List ℕ) → a ≡ b → get_or a 5 0 ≡ get_or b 5 0
differ a b same = ap (λ ns. get_or ns 5 0) same

-- worker 1 writes and worker 2 commits in the example: without the premise that a name is reserved, or that the principal
-- acts alone, worker 7 would be the only one

producer_needs_a_reserved_topic :
    ((opening : Settings) (journal : List Entry) (now : State Retained) (worker : ℕ) (principal topic : List ℕ)
    → IsLegal (opened_by opening) journal now → ActsAlone worker principal journal
    → NoSuperUser opening.supers (Produces topic) journal → IsSoleProducer worker topic journal)
    → ⊥
producer_needs_a_reserved_topic law =
    let own : 1 ≡ 7 = (law settings journal now 7 nobody topic legal (nobody_acts 7) no_super_writes).1.1.0 refl in
    absurd (omega (arith, own))

committer_needs_a_reserved_group :
    ((opening : Settings) (journal : List Entry) (now : State Retained) (worker : ℕ)
    (principal group topic : List ℕ)
    → IsLegal (opened_by opening) journal now → ActsAlone worker principal journal
    → NoSuperUser opening.supers (Commits group topic) journal → IsSoleCommitter worker group topic journal)
    → ⊥
committer_needs_a_reserved_group law =
    let own : 2 ≡ 7 =
    (law settings journal now 7 nobody group topic legal (nobody_acts 7) no_super_commits).1.1.1.0 (refl, refl) in
    absurd (omega (arith, own))

producer_needs_to_act_alone :
    ((opening : Settings) (journal : List Entry) (now : State Retained) (worker : ℕ) (principal topic : List ℕ)
    → IsLegal (opened_by opening) journal now → IsReserved opening journal principal Write Topic topic
    → NoSuperUser opening.supers (Produces topic) journal → IsSoleProducer worker topic journal)
    → ⊥
producer_needs_to_act_alone law =
    let own : 1 ≡ 7 = (law settings journal now 7 writer topic legal reserved_to_write no_super_writes).1.1.0 refl in
    absurd (omega (arith, own))

committer_needs_to_act_alone :
    ((opening : Settings) (journal : List Entry) (now : State Retained) (worker : ℕ)
    (principal group topic : List ℕ)
    → IsLegal (opened_by opening) journal now → IsReserved opening journal principal Read Group group
    → NoSuperUser opening.supers (Commits group topic) journal → IsSoleCommitter worker group topic journal)
    → ⊥
committer_needs_to_act_alone law =
    let own : 2 ≡ 7 =
    (law settings journal now 7 reader group topic legal reserved_to_read no_super_commits).1.1.1.0 (refl, refl) in
    absurd (omega (arith, own))

-- a journal without bindings, in which one principal writes and commits, as worker 0

abbrev done_by : List ℕ → List Entry
done_by who =
    entry 0 admin (CreateTopics (record { name = topic; partitions = 1 })) (Done bodies.Created)
    ∷ entry 0 who
    (Produce (record {
      topic = topic;
      partition = 0;
      batch = record { idem = None; records = record { key = None; value = []; headers = [] } ∷ [] };
    }))
    (Done (bodies.Offset 0))
    ∷ entry 0 who (OffsetCommit (record { group = group; topic = topic; partition = 0; offset = 1 }))
    (Done bodies.Committed)
    ∷ []

unbound : (who principal : List ℕ) (operation : Operation) (resource : ResourceKind) (name : List ℕ)
    → IsReserved settings (done_by who) principal operation resource name
unbound who principal operation resource name zero within =
    record { allowed = λ who host. tt; closed = λ who host. refl }
unbound who principal operation resource name (suc zero) within =
    record { allowed = λ who host. tt; closed = λ who host. refl }
unbound who principal operation resource name (suc (suc zero)) within =
    record { allowed = λ who host. tt; closed = λ who host. refl }
unbound who principal operation resource name (suc (suc (suc k))) within = absurd (omega (arith, within))

-- a super user's is legal

abbrev now_by_admin : State Retained
now_by_admin = standing_after settings (done_by admin)

legal_by_admin : IsLegal (opened_by settings) (done_by admin) now_by_admin
legal_by_admin = record { replies = refl; state = refl }

nobody_acts_there : ActsAlone 1 nobody (done_by admin)
nobody_acts_there = grind (arith, nat_tests)

producer_needs_no_super_user :
    ((opening : Settings) (journal : List Entry) (now : State Retained) (worker : ℕ) (principal topic : List ℕ)
    → IsLegal (opened_by opening) journal now → IsReserved opening journal principal Write Topic topic
    → ActsAlone worker principal journal → IsSoleProducer worker topic journal)
    → ⊥
producer_needs_no_super_user law =
    let own : 0 ≡ 1 =
    (law settings (done_by admin) now_by_admin 1 nobody topic legal_by_admin (unbound admin nobody Write Topic topic)
    nobody_acts_there).1.0 refl in
    absurd (omega (arith, own))

committer_needs_no_super_user :
    ((opening : Settings) (journal : List Entry) (now : State Retained) (worker : ℕ)
    (principal group topic : List ℕ)
    → IsLegal (opened_by opening) journal now → IsReserved opening journal principal Read Group group
    → ActsAlone worker principal journal → IsSoleCommitter worker group topic journal)
    → ⊥
committer_needs_no_super_user law =
    let own : 0 ≡ 1 =
    (law settings (done_by admin) now_by_admin 1 nobody group topic legal_by_admin (unbound admin nobody Read Group group)
    nobody_acts_there).1.1.0 (refl, refl) in
    absurd (omega (arith, own))

-- another's is not

abbrev stranger : List ℕ
stranger = codes "User:s"

nobody_acts_beside : ActsAlone 1 nobody (done_by stranger)
nobody_acts_beside = grind (arith, nat_tests)

producer_needs_a_legal_journal :
    ((opening : Settings) (journal : List Entry) (worker : ℕ) (principal topic : List ℕ)
    → IsReserved opening journal principal Write Topic topic → ActsAlone worker principal journal
    → NoSuperUser opening.supers (Produces topic) journal → IsSoleProducer worker topic journal)
    → ⊥
producer_needs_a_legal_journal law =
    let own : 0 ≡ 1 =
    (law settings (done_by stranger) 1 nobody topic (unbound stranger nobody Write Topic topic) nobody_acts_beside
    (λ none. absurd none, (λ does. refl, (λ none. absurd none, tt)))).1.0 refl in
    absurd (omega (arith, own))

committer_needs_a_legal_journal :
    ((opening : Settings) (journal : List Entry) (worker : ℕ) (principal group topic : List ℕ)
    → IsReserved opening journal principal Read Group group → ActsAlone worker principal journal
    → NoSuperUser opening.supers (Commits group topic) journal → IsSoleCommitter worker group topic journal)
    → ⊥
committer_needs_a_legal_journal law =
    let own : 0 ≡ 1 =
    (law settings (done_by stranger) 1 nobody group topic (unbound stranger nobody Read Group group) nobody_acts_beside
    (λ none. absurd none, (λ none. absurd none, (λ does. refl, tt)))).1.1.0 (refl, refl) in
    absurd (omega (arith, own))

-- ---- a reservation lasts

-- bindings that are created may open a name
reservation_needs_no_opening :
    ((opening : Settings) (journal : List Entry) (principal : List ℕ) (operation : Operation)
    (resource : ResourceKind) (name : List ℕ)
    → IsReservedFor principal operation resource name (bindings_after opening [])
    → IsReserved opening journal principal operation resource name)
    → ⊥
reservation_needs_no_opening law =
    let reserved =
    law settings journal nobody Write Topic topic (record { allowed = λ who host. tt; closed = λ who host. refl }) 2
    (omega arith) in
    let fifth : 119 ≡ 110 = differ writer nobody ((reserved.allowed writer (codes "h")).0 refl) in
    absurd (omega (arith, fifth))

-- where a name without bindings is everyone's, so may bindings that are deleted

abbrev bound : Settings
bound = record { supers = admin ∷ []; opening = allow writer Write Topic topic ∷ []; everyone = true }

abbrev then_deleted : List Entry
then_deleted =
    entry 0 admin
    (DeleteAcls (record {
      filter = record {
        resource = None;
        name = None;
        pattern = patterns.Any;
        principal = None;
        host = None;
        operation = None;
        permission = None;
      };
    }))
    (Done (bodies.Bindings ((1, allow writer Write Topic topic) ∷ [])))
    ∷ entry 0 admin (CreateTopics (record { name = topic; partitions = 1 })) (Done bodies.Created)
    ∷ []

-- a request that creates no binding
abbrev IsNoCreation : Request → Type 0
IsNoCreation (CreateAcls asked) = ⊥
IsNoCreation _ = Unit {0}

bound_first : IsReservedFor writer Write Topic topic (bindings_after bound [])
bound_first = record {
  allowed = λ who host. grind (arith, nat_tests, writes, never, and_parts);
  closed = λ who host. refl;
}

reservation_needs_its_bindings :
    ((opening : Settings) (journal : List Entry) (principal : List ℕ) (operation : Operation)
    (resource : ResourceKind) (name : List ℕ)
    → IsReservedFor principal operation resource name (bindings_after opening [])
    → AllByRecursion (λ (e : Entry). IsNoCreation e.event.request) journal
    → IsReserved opening journal principal operation resource name)
    → ⊥
reservation_needs_its_bindings law =
    let reserved = law bound then_deleted writer Write Topic topic bound_first (tt, (tt, tt)) 1 (omega arith) in
    true≢false (reserved.closed nobody (codes "h"))

-- nor does it last where the name was open at first
reservation_needs_its_start :
    ((opening : Settings) (journal : List Entry) (principal : List ℕ) (operation : Operation)
    (resource : ResourceKind) (name : List ℕ)
    → AllByRecursion (λ (e : Entry). LeavesReserved principal operation resource name opening.everyone e.event.request
    e.reply) journal
    → IsReserved opening journal principal operation resource name)
    → ⊥
reservation_needs_its_start law =
    let reserved =
    law bound (entry 0 admin (CreateTopics (record { name = topic; partitions = 1 })) (Done bodies.Created) ∷ [])
    nobody Write Topic topic (tt, tt) 0 (omega arith) in
    let fifth : 119 ≡ 110 = differ writer nobody ((reserved.allowed writer (codes "h")).0 refl) in
    absurd (omega (arith, fifth))
