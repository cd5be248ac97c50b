-- Which bindings open a name.
use Rattle.kob_delivery.proofs.Words.{AllByRecursion, Body, Bool, Done, Entry, ◌&&◌, ℕ, List, [], false, inl, inr, refl, true, true≢false, cases_Bool, sym, ◌∙◌, ◌∷◌, ◌≡◌}
use Rattle.std.proofs.Common.{IsTrue, not, ◌↔◌}
use Rattle.kob_names.specs.declared.kinds.Operation.{Operation}
use Rattle.kob_names.specs.declared.kinds.ResourceKind.{ResourceKind}
use Rattle.kob_rights.specs.declared.on_acls.CreateAcls.{CreateAcls as Creation}
use Rattle.kob_rights.specs.declared.request.Request.TheVariants.{CreateAcls}
use Rattle.kob_delivery.specs.Reserved.{IsReservedBy, allows_others, is_on}
use Rattle.std.specs.List.{list_any}

pub none_passes : {A : Type 0} (test : A → Bool) (xs : List A) → list_any test xs ≡ false
    → AllByRecursion (λ x. test x ≡ false) xs
none_passes test [] none = tt
none_passes test (x ∷ xs) none =
    elim (cases_Bool (test x)) [
      | inl on ↦ absurd (true≢false (rw on at none))
      | inr off ↦ (off, none_passes test xs (rw off at none))
    ]

each_fails : {A : Type 0} (test : A → Bool) (xs : List A) → AllByRecursion (λ x. test x ≡ false) xs
    → list_any test xs ≡ false
each_fails test [] fails = refl
each_fails test (x ∷ xs) fails = rw (fails.0) (each_fails test xs fails.1)

pub none_opens : {A : Type 0} (test : A → Bool) (xs : List A) (opens answer : Bool) → opens ≡ list_any test xs
    → answer ≡ not opens → IsTrue answer ↔ AllByRecursion (λ x. test x ≡ false) xs
none_opens test xs true answer any is = (
  λ yes. absurd (true≢false (sym yes ∙ is)),
  λ fails. absurd (true≢false (any ∙ each_fails test xs fails)),
)
none_opens test xs false answer any is = (λ yes. none_passes test xs (sym any), λ fails. is)

-- an entry that creates bindings leaves a name reserved if none of them opens it
pub created_leaves : (principal : List ℕ) (operation : Operation) (resource : ResourceKind) (name : List ℕ)
    (everyone : Bool) (e : Entry) (asked : Creation) (body : Body) (opens : Bool)
    → e.event.request ≡ CreateAcls asked → e.reply ≡ Done body
    → opens ≡ list_any (λ draft. is_on resource name draft && allows_others principal operation draft) asked.drafts
    → IsTrue (not opens) ↔ IsReservedBy principal operation resource name everyone e
created_leaves principal operation resource name everyone e asked body opens request done any =
    rw (request, done)
    (none_opens (λ draft. is_on resource name draft && allows_others principal operation draft) asked.drafts opens
    (not opens) any refl)
