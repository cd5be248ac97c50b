-- The bindings in force on a name, at each place of a journal.
use Rattle.kob_delivery.proofs.Words.{Binding, Bool, Entry, IsReserved, IsReservedFor, List, Reply, Request, Settings, Some, [], arith, false, fold, get_or_from_slice_get, inl, inr, journaled_replies, length, nat_tests, opened_by, refl, slice_get, slice_get_within, subst, suc, sym, take, take-suc, true, ℕ, ◌++◌, ◌<◌, ◌∙◌, ◌∷◌, ◌≡◌, ◌≤◌, ◌⊎◌}
use Rattle.std.proofs.Common.{IsTrue, ap, not, true≢false, ◌↔◌}
use Rattle.kob_authorizer.specs.Decide.{Contents}
use Rattle.kob_broker.specs.Justice.{access_after, in_force}
use Rattle.kob_names.specs.declared.kinds.Operation.{Operation}
use Rattle.kob_names.specs.declared.kinds.ResourceKind.{ResourceKind}
use Rattle.kob_rights.specs.declared.event.Event.{Event}
use Rattle.kob_shared.specs.Journals.{bindings_after, events_of}
use Rattle.kob_delivery.specs.Reserved.{after_reply, bindings_on, is_open_to_others, with_created}
use Rattle.kob_delivery.proofs.OnNames.{closed_if, on_created, replied_to, reserved_if}

-- ---- one more entry

in_force_next : (journal : List Entry) (x : Entry) (access : Contents)
    → in_force (events_of (journal ++ x ∷ [])) (journaled_replies (journal ++ x ∷ [])) access
    ≡ access_after x.reply x.event.request (in_force (events_of journal) (journaled_replies journal) access)
in_force_next [] x access = refl
in_force_next (y ∷ ys) x access = in_force_next ys x (access_after y.reply y.event.request access)

everyone_after : (reply : Reply) (request : Request) (access : Contents)
    → (access_after reply request access).everyone ≡ access.everyone
everyone_after reply request access = grind (arith, nat_tests)

everyone_stays : (events : List Event) (replies : List Reply) (access : Contents)
    → (in_force events replies access).everyone ≡ access.everyone
everyone_stays [] replies access = refl
everyone_stays (event ∷ events) [] access = refl
everyone_stays (event ∷ events) (reply ∷ replies) access =
    everyone_stays events replies (access_after reply event.request access) ∙ everyone_after reply event.request access

-- ---- the bindings on a name

pub on_opening : (opening : Settings) (resource : ResourceKind) (name : List ℕ) (bindings : List Binding)
    → bindings ≡ fold (with_created resource name) [] opening.opening
    → bindings ≡ bindings_on resource name (bindings_after opening [])
on_opening opening resource name bindings is = is ∙ sym (on_created resource name [] 1 opening.opening)

pub on_next : (opening : Settings) (resource : ResourceKind) (name : List ℕ) (journal : List Entry) (k next : ℕ)
    (x : Entry) (before now : List Binding) → next ≡ suc k → slice_get journal k ≡ Some x
    → before ≡ bindings_on resource name (bindings_after opening (take k journal))
    → now ≡ after_reply resource name x.reply x.event.request before
    → now ≡ bindings_on resource name (bindings_after opening (take next journal))
on_next opening resource name journal k next x before now same there so_far follows =
    let access = bindings_after opening (take k journal) in
    let longer = take-suc journal k x (slice_get_within journal k x there) in
    rw (same, longer, get_or_from_slice_get journal k x x there, in_force_next (take k journal) x (opened_by opening).access)
    (follows ∙ ap (after_reply resource name x.reply x.event.request) so_far
    ∙ sym (replied_to resource name x.reply x.event.request access))

-- ---- what they decide

earlier_or_here : (i k next : ℕ) → next ≡ suc k → i < next → (i < k) ⊎ (i ≡ k)
earlier_or_here i k next same below = grind arith

module _ (opening : Settings) (principal : List ℕ) (operation : Operation) (resource : ResourceKind) (name : List ℕ)
    (journal : List Entry) where
  -- the bindings in force at a place reserve it
  abbrev pub ReservedAt : ℕ → Type 0
  ReservedAt k = IsReservedFor principal operation resource name (bindings_after opening (take k journal))

  told : (k : ℕ) (bindings : List Binding) (others : Bool)
      → bindings ≡ bindings_on resource name (bindings_after opening (take k journal))
      → others ≡ is_open_to_others principal operation opening.everyone bindings
      → others ≡ is_open_to_others principal operation (bindings_after opening (take k journal)).everyone
      (bindings_on resource name (bindings_after opening (take k journal)))
  told k bindings others on is =
      let stays = everyone_stays (events_of (take k journal)) (journaled_replies (take k journal)) (opened_by opening).access in
      rw (stays, sym on) is

  pub reserved_at : (k : ℕ) (bindings : List Binding) (others : Bool)
      → bindings ≡ bindings_on resource name (bindings_after opening (take k journal))
      → others ≡ is_open_to_others principal operation opening.everyone bindings → others ≡ false → ReservedAt k
  reserved_at k bindings others on is closed =
      reserved_if principal operation resource name (bindings_after opening (take k journal))
      (sym (told k bindings others on is) ∙ closed)

  pub unreserved_at : (k : ℕ) (bindings : List Binding) (others : Bool)
      → bindings ≡ bindings_on resource name (bindings_after opening (take k journal))
      → others ≡ is_open_to_others principal operation opening.everyone bindings → others ≡ true → ¬ (ReservedAt k)
  unreserved_at k bindings others on is opened reserved =
      let closed = closed_if principal operation resource name (bindings_after opening (take k journal)) reserved in
      true≢false (sym opened ∙ told k bindings others on is ∙ closed)

  pub reserved_more : (k next : ℕ) → next ≡ suc k → ((i : ℕ) → i < k → ReservedAt i) → ReservedAt k
      → (i : ℕ) → i < next → ReservedAt i
  reserved_more k next same before here i below =
      elim (earlier_or_here i k next same below) [ inl earlier ↦ before i earlier | inr is ↦ subst ReservedAt (sym is) here ]

  pub reserved_all : (k : ℕ) → length journal ≤ k → ((i : ℕ) → i < k → ReservedAt i)
      → IsReserved opening journal principal operation resource name
  reserved_all k past before i below = before i (omega arith)

-- the bindings that are in force at first
pub opening_decides : (opening : Settings) (principal : List ℕ) (operation : Operation) (resource : ResourceKind)
    (name : List ℕ) (bindings : List Binding) (others answer : Bool)
    → bindings ≡ bindings_on resource name (bindings_after opening [])
    → others ≡ is_open_to_others principal operation opening.everyone bindings → answer ≡ not others
    → IsTrue answer ↔ IsReservedFor principal operation resource name (bindings_after opening [])
opening_decides opening principal operation resource name bindings true answer on is told = (
  λ yes. absurd (true≢false (sym yes ∙ told)),
  λ reserved. absurd (unreserved_at opening principal operation resource name [] 0 bindings true on is refl reserved),
)
opening_decides opening principal operation resource name bindings false answer on is told =
    (λ yes. reserved_at opening principal operation resource name [] 0 bindings false on is refl, λ reserved. told)
