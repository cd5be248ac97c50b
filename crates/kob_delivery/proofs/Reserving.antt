-- From the bindings in force to the worker whose entry it is.
use Rattle.kob_delivery.proofs.Words.{ActsAlone, AllByRecursion, Binding, Body, Bool, Commits, Done, Entry, IsLegal, IsReserved, IsReservedFor, IsSoleCommitter, IsSoleProducer, IsTrue, List, NoSuperUser, Option, Produces, Reply, Request, Retained, Settings, Some, [], arith, false, filter, get_or_from_slice_get, inl, inr, nat_tests, of_each, on_group, on_topic, opened_by, refl, rights, slice_get, slice_get-get_or, slice_get_within, subst, suc, take, take-suc, was_kept, ℕ, ◌&&◌, ◌∙◌, ◌∷◌, ◌≡◌, ◌⊎◌}
use Rattle.kob_names.specs.Binding.{is_granted}
use Rattle.kob_names.specs.declared.kinds.Operation.{Operation}
use Rattle.kob_names.specs.declared.kinds.Permission.TheVariants.{Allow, Deny}
use Rattle.kob_names.specs.declared.kinds.ResourceKind.{ResourceKind}
use Rattle.kob_names.specs.declared.kinds.ResourceKind.TheVariants.{Group, Topic}
use Rattle.kob_names.specs.declared.kinds.Operation.TheVariants.{Read, Write as WriteTo}
use Rattle.kob_authorizer.specs.Decide.{Contents, decide, first_serial, hits, is_hit, is_super, is_unmatched, unless_open, verdict_of, question_of}
use Rattle.kob_broker.specs.Justice.{access_after, in_force, Grants, IsJust, EachGranted}
use Rattle.kob_broker.specs.State.{State}
use Rattle.kob_rights.specs.declared.event.Event.{Event}
use Rattle.kob_shared.proofs.Journals.{entry_is_just}
use Rattle.kob_delivery.proofs.Lists.{all_at, all_in, all_last}

-- ---- super users stay

supers_after : (reply : Reply) (request : Request) (access : Contents)
    → (access_after reply request access).supers ≡ access.supers
supers_after reply request access = grind (arith, nat_tests)

supers_stay : (events : List Event) (replies : List Reply) (access : Contents)
    → (in_force events replies access).supers ≡ access.supers
supers_stay [] replies access = refl
supers_stay (event ∷ events) [] access = refl
supers_stay (event ∷ events) (reply ∷ replies) access =
    supers_stay events replies (access_after reply event.request access) ∙ supers_after reply event.request access

-- ---- who is granted a right is a super user, or an allow hits, or it is open to everyone

granted_how : (opened super : Bool) (deny : Option ℕ) (found : List (ℕ × Binding))
    → IsTrue (is_granted (unless_open opened (verdict_of super deny (first_serial found))))
    → IsTrue super ⊎ (((x : ℕ × Binding) × (rest : List (ℕ × Binding)) × (found ≡ x ∷ rest)) ⊎ IsTrue opened)
granted_how opened super deny found granted = grind (arith, nat_tests)

-- what holds of an element that passes holds, where one passes
of_first : {X : Type 0} (test : X → Bool) (P : Type 0) (xs : List X) (x : X) (rest : List X)
    → filter test xs ≡ x ∷ rest → AllByRecursion (λ y. IsTrue (test y) → P) xs → P
of_first test P xs x rest first all =
    let (there, passes) = was_kept test xs x (rw first (0, omega arith, refl)) in
    all_in (λ y. IsTrue (test y) → P) xs x there all passes

-- so it is the principal, where the name is reserved and no super user asks
by_reservation : (principal who host : List ℕ) (operation : Operation) (resource : ResourceKind) (name : List ℕ)
    (access : Contents) → IsReservedFor principal operation resource name access
    → is_super access.supers who ≡ false
    → IsTrue (is_granted (decide access (question_of who host operation resource name))) → who ≡ principal
by_reservation principal who host operation resource name access reserved common granted =
    let asked = question_of who host operation resource name in
    elim (granted_how (access.everyone && is_unmatched access.entries asked) (is_super access.supers who)
    (first_serial (hits access.entries Deny asked)) (hits access.entries Allow asked) granted) [
      | inl super ↦ absurd (let no = common in let yes = super in cc)
      | inr (inl found) ↦ of_first (is_hit Allow asked) (who ≡ principal) access.entries found.0 found.1 found.2
          (reserved.allowed who host)
      | inr (inr opened) ↦ absurd (let no = reserved.closed who host in let yes = opened in cc)
    ]

-- ---- the right that a request of the kind needs

produce_needs : (access : Contents) (event : Event) (topic : List ℕ) (request : Request) (reply : Reply)
    → ((body : Body) → reply ≡ Done body → EachGranted access event (rights request))
    → Produces topic request reply → Grants access event (on_topic WriteTo topic)
produce_needs access event topic request reply just is = grind (arith, nat_tests)

commit_needs : (access : Contents) (event : Event) (group topic : List ℕ) (request : Request) (reply : Reply)
    → ((body : Body) → reply ≡ Done body → EachGranted access event (rights request))
    → Commits group topic request reply → Grants access event (on_group Read group)
commit_needs access event group topic request reply just is = grind (arith, nat_tests)

-- ---- over a journal

-- an entry of the kind, for which the operation on the name has to be granted, is the worker's
module _ (opening : Settings) (journal : List Entry) (now : State Retained) (worker : ℕ) (principal : List ℕ)
    (Kind : Request → Reply → Type 0) (operation : Operation) (resource : ResourceKind) (name : List ℕ)
    (needs : (access : Contents) (event : Event) (reply : Reply) → IsJust access event reply → Kind event.request reply
    → Grants access event (record { operation = operation; resource = resource; name = name }))
    (legal : IsLegal (opened_by opening) journal now)
    (reserved : IsReserved opening journal principal operation resource name)
    (alone : ActsAlone worker principal journal) (common : NoSuperUser opening.supers Kind journal) where
  own_at : (k : ℕ) (e : Entry) → slice_get journal k ≡ Some e → Kind e.event.request e.reply → e.worker ≡ worker
  own_at k e at is = grind (arith, nat_tests, supers_stay, all_at, by_reservation, slice_get_within, entry_is_just)

  all_own : AllByRecursion (λ (e : Entry). Kind e.event.request e.reply → e.worker ≡ worker) journal
  all_own = grind (arith, nat_tests, of_each, own_at, slice_get-get_or)

-- what is just of an event that was done
granted_where_done : (access : Contents) (event : Event) (reply : Reply) → IsJust access event reply → (body : Body)
    → reply ≡ Done body → EachGranted access event (rights event.request)
granted_where_done access event reply just body done =
    subst (λ (r : Reply). IsJust access event r) done just

pub sole_producer : (opening : Settings) (journal : List Entry) (now : State Retained) (worker : ℕ)
    (principal topic : List ℕ) → IsLegal (opened_by opening) journal now
    → IsReserved opening journal principal WriteTo Topic topic → ActsAlone worker principal journal
    → NoSuperUser opening.supers (Produces topic) journal → IsSoleProducer worker topic journal
sole_producer opening journal now worker principal topic legal reserved alone common =
    all_own opening journal now worker principal (Produces topic) WriteTo Topic topic
    (λ access event reply just is.
    produce_needs access event topic event.request reply (granted_where_done access event reply just) is)
    legal reserved alone common

pub sole_committer : (opening : Settings) (journal : List Entry) (now : State Retained) (worker : ℕ)
    (principal group topic : List ℕ) → IsLegal (opened_by opening) journal now
    → IsReserved opening journal principal Read Group group → ActsAlone worker principal journal
    → NoSuperUser opening.supers (Commits group topic) journal → IsSoleCommitter worker group topic journal
sole_committer opening journal now worker principal group topic legal reserved alone common =
    all_own opening journal now worker principal (Commits group topic) Read Group group
    (λ access event reply just is.
    commit_needs access event group topic event.request reply (granted_where_done access event reply just) is)
    legal reserved alone common

-- The first entry that breaks a premise.

-- what holds of the first elements and of the next holds of one more
pub kept_more : {X : Type 0} (Holds : X → Type 0) (xs : List X) (k next : ℕ) (x : X) → next ≡ suc k
    → slice_get xs k ≡ Some x → AllByRecursion Holds (take k xs) → Holds x → AllByRecursion Holds (take next xs)
kept_more Holds xs k next x same there before here =
    let longer = take-suc xs k x (slice_get_within xs k x there) in
    rw (same, longer, get_or_from_slice_get xs k x x there) (all_last Holds (take k xs) x before here)
