-- The tree of the principals that entries name leads to all that cover a principal.
use Rattle.std.proofs.Common.{Bool, Contains, List, None, Option, Some, [], append-nil, append_assoc, codes, filter, fold, inl, inr, subst, true, ℕ, ◌++◌, ◌∷◌, ◌≡◌}
use Rattle.std.proofs.lemmas.Bool.{or_cases}
use Rattle.std.proofs.lemmas.List.Elements.{Contains-append_left, Contains-append_right}
use Rattle.std.proofs.lemmas.Slice.Eq.{bytes_eq-Decides}
use Rattle.std.specs.FinMap as finite
use Rattle.kob_names.specs.Binding.{Binding}
use Rattle.kob_names.specs.Same.{same_text}
use Rattle.kob_authorizer.proofs.Entries.{are_rising, rising_filter}
use Rattle.kob_authorizer.proofs.IndexSteps.{index_added, index_empty}
use Rattle.kob_authorizer.proofs.Verdicts.{at_its_place}
use Rattle.kob_authorizer.specs.Decide.{IsRising}
use Rattle.kob_authorizer.specs.Index.{AreRising, IsIndex}
use Rattle.kob_prefix_tree.specs.Held.{PrefixMap, held}
use Rattle.kob_policy_review.specs.Classes.{is_for}
use Rattle.kob_policy_review.specs.Finding.{askers_in, asking_serials, principal_place, with_asker}

named : (tree : PrefixMap) (done entries : List (ℕ × Binding)) → IsIndex principal_place tree done
    → IsIndex principal_place (fold with_asker tree entries) (done ++ entries)
named tree done [] is = rw (append-nil done) is
named tree done (x ∷ xs) is =
    rw (← append_assoc done (x ∷ []) xs)
    (named (with_asker tree x) (done ++ x ∷ []) xs (index_added principal_place tree done x is))

pub askers_lead : (entries : List (ℕ × Binding)) → IsIndex principal_place (askers_in entries) entries
askers_lead entries = named finite.empty [] entries (index_empty principal_place)

module _ (tree : PrefixMap) (entries : List (ℕ × Binding)) (is : IsIndex principal_place tree entries)
    (entry : ℕ × Binding) (there : Contains entries entry) where
  of_text : (text : List ℕ) → same_text entry.1.principal text ≡ true → Contains (held tree text).0 entry.0
  of_text text same =
      subst (λ (t : List ℕ). Contains (held tree t).0 entry.0) ((bytes_eq-Decides entry.1.principal text).0 same)
      (at_its_place principal_place tree entries entry is there)

  pub askers_lead_to : (principal : Option (List ℕ)) → is_for principal entry ≡ true
      → Contains (asking_serials (held tree) principal) entry.0
  askers_lead_to None covered = of_text (codes "User:*") covered
  askers_lead_to (Some text) covered =
      elim (or_cases (same_text entry.1.principal text) (same_text entry.1.principal (codes "User:*")) covered) [
        | inl own ↦ Contains-append_right (held tree (codes "User:*")).0 (held tree text).0 entry.0 (of_text text own)
        | inr all ↦ Contains-append_left (held tree (codes "User:*")).0 (held tree text).0 entry.0
            (of_text (codes "User:*") all)
      ]

-- serials still rise where entries are left out
pub still_rising : (test : ℕ × Binding → Bool) (low high : ℕ) (entries : List (ℕ × Binding))
    → IsRising low entries high
    → AreRising (filter test entries)
still_rising test low high entries rising =
    are_rising low high (filter test entries) (rising_filter test low high entries rising)
