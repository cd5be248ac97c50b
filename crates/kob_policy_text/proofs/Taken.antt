-- A pattern takes a name in what is in force exactly if one of a policy does, and a principal is named exactly if a
-- binding of it does.
use Rattle.kob_policy_text.proofs.Words.{Bool, List, [], ap, false, fold, list_any, refl, sym, true, ℕ, ◌∙◌, ◌∷◌, ◌≡◌}
use Rattle.std.proofs.Common.{None, Option, Some, inl, inr, is_some, subst, ◌||◌}
use Rattle.std.proofs.lemmas.Bool.{cases_Bool}
use Rattle.std.proofs.lemmas.List.Folds.{list_any-append}
use Rattle.std.proofs.lemmas.Slice.Eq.{bytes_eq-Decides}
use Rattle.kob_authorizer.proofs.Entries.{any_passes, passing, serial_in_force}
use Rattle.kob_authorizer.specs.Creation.{Added, add_one, serial_of, with_binding}
use Rattle.kob_authorizer.specs.Decide.{has_match, takes_name}
use Rattle.kob_names.proofs.SameBindings.{same_binding_decides}
use Rattle.kob_names.specs.Binding.{Binding}
use Rattle.kob_names.specs.Binding.{same_binding}
use Rattle.kob_names.specs.Same.{same_text}
use Rattle.kob_names.specs.declared.kinds.ResourceKind.{ResourceKind}
use Rattle.kob_policy_review.proofs.Texts.{same_when}
use Rattle.kob_policy_text.specs.AtHand.{is_known, principals_named, with_principal, with_text}
use Rattle.kob_policy_text.specs.Hints.{is_name_taken, is_named, names}
use Rattle.kob_policy_text.specs.Policy.{Policy, added, contents_of}

or_true : (b : Bool) → (b || true) ≡ true
or_true true = refl
or_true false = refl

or_false : (b : Bool) → (b || false) ≡ b
or_false true = refl
or_false false = refl

or_or : (a b c : Bool) → ((a || b) || c) ≡ (a || (b || c))
or_or true b c = refl
or_or false b c = refl

module _ (resource : ResourceKind) (name : List ℕ) where
  -- a binding of which an equal one is in force
  in_force_takes : (entries : List (ℕ × Binding)) (binding : Binding) (serial : ℕ)
      → serial_of entries binding ≡ Some serial → takes_name resource name binding ≡ true
      → has_match entries resource name ≡ true
  in_force_takes entries binding serial is takes =
      let (entry, (there, same)) =
      passing (λ (entry : ℕ × Binding). same_binding entry.1 binding) entries
      (sym (serial_in_force entries binding) ∙ ap is_some is) in
      any_passes (λ (entry : ℕ × Binding). takes_name resource name entry.1) entries entry there
      (subst (λ (b : Binding). takes_name resource name b ≡ true)
      (sym ((same_binding_decides entry.1 binding).0 same)) takes)

  by_found : (so_far : Added) (binding : Binding) (found : Option ℕ)
      → serial_of so_far.entries binding ≡ found
      → has_match (with_binding found so_far binding).entries resource name
      ≡ (has_match so_far.entries resource name || takes_name resource name binding)
  by_found so_far binding None is =
      list_any-append (λ (entry : ℕ × Binding). takes_name resource name entry.1) so_far.entries
      ((so_far.next, binding) ∷ [])
      ∙ ap (λ b. has_match so_far.entries resource name || b) (or_false (takes_name resource name binding))
  by_found so_far binding (Some serial) is =
      elim (cases_Bool (takes_name resource name binding)) [
        | inl takes ↦
            rw takes (in_force_takes so_far.entries binding serial is takes
            ∙ sym (or_true (has_match so_far.entries resource name)))
        | inr other ↦ rw other (sym (or_false (has_match so_far.entries resource name)))
      ]

  -- each of them added
  with_all : (so_far : Added) (bindings : List Binding)
      → has_match (fold add_one so_far bindings).entries resource name
      ≡ (has_match so_far.entries resource name || list_any (takes_name resource name) bindings)
  with_all so_far [] = sym (or_false (has_match so_far.entries resource name))
  with_all so_far (binding ∷ rest) =
      with_all (add_one so_far binding) rest
      ∙ ap (λ b. b || list_any (takes_name resource name) rest)
      (by_found so_far binding (serial_of so_far.entries binding) refl)
      ∙ or_or (has_match so_far.entries resource name) (takes_name resource name binding)
      (list_any (takes_name resource name) rest)

-- Whether a pattern of a policy takes the name.
pub name_taken_is : (policy : Policy) (resource : ResourceKind) (name : List ℕ)
    → has_match (contents_of policy).entries resource name ≡ is_name_taken policy resource name
unfolding contents_of
name_taken_is policy resource name =
    let none : Added = record { entries = []; next = 1; serials = [] } in
    let some : Added = record { entries = (added policy).entries; next = (added policy).next; serials = [] } in
    with_all resource name some policy.closings
    ∙ ap (λ b. b || list_any (takes_name resource name) policy.closings) (with_all resource name none policy.bindings)

-- Whether a binding of a policy names the principal.

same_back : (one other : List ℕ) → same_text one other ≡ same_text other one
same_back one other = same_when _ _
    (λ same. (bytes_eq-Decides other one).1 (sym ((bytes_eq-Decides one other).0 same)))
    (λ same. (bytes_eq-Decides one other).1 (sym ((bytes_eq-Decides other one).0 same)))

known_there : (known : List (List ℕ)) (text principal : List ℕ) → is_known known text ≡ true
    → same_text text principal ≡ true → is_known known principal ≡ true
known_there known text principal is same =
    subst (λ (p : List ℕ). is_known known p ≡ true) ((bytes_eq-Decides text principal).0 same) is

with_is : (known : List (List ℕ)) (text principal : List ℕ)
    → is_known (with_text known text) principal ≡ (is_known known principal || same_text text principal)
with_is known text principal =
    elim (cases_Bool (is_known known text)) [
      | inl is ↦
          rw is (elim (cases_Bool (same_text text principal)) [
            | inl same ↦ rw same (known_there known text principal is same ∙ sym (or_true (is_known known principal)))
            | inr other ↦ rw other (sym (or_false (is_known known principal)))
          ])
      | inr none ↦
          rw none (list_any-append (same_text principal) known (text ∷ [])
          ∙ ap (λ b. is_known known principal || b) (or_false (same_text principal text) ∙ same_back principal text))
    ]

named_from : (known : List (List ℕ)) (bindings : List Binding) (principal : List ℕ)
    → is_known (fold with_principal known bindings) principal
    ≡ (is_known known principal || list_any (names principal) bindings)
named_from known [] principal = sym (or_false (is_known known principal))
named_from known (binding ∷ rest) principal =
    named_from (with_text known binding.principal) rest principal
    ∙ ap (λ b. b || list_any (names principal) rest) (with_is known binding.principal principal)
    ∙ or_or (is_known known principal) (same_text binding.principal principal) (list_any (names principal) rest)

pub named_is : (policy : Policy) (principal : List ℕ)
    → is_known (principals_named policy.bindings) principal ≡ is_named policy principal
named_is policy principal = named_from [] policy.bindings principal
