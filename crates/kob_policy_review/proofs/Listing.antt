-- The bindings that are listed are those without which no answer changes.
use Rattle.std.proofs.Common.{Bool, Contains, List, [], cond, not, map, refl, sym, ap, inl, inr, subst, ◌∷◌, ◌==◌, ◌≡◌, ◌∙◌, ℕ}
use Rattle.std.proofs.lemmas.Bool.{cases_Bool, not-true}
use Rattle.std.specs.List.{filter, list_any}
use Rattle.kob_names.specs.Binding.{Binding}
use Rattle.kob_authorizer.proofs.Entries.{all_of, among_mapped, given_by, kept_by_filter, was_kept}
use Rattle.kob_authorizer.specs.Decide.{Contents, IsRising}
use Rattle.kob_policy_review.proofs.Needing.{alike_without, changes_without}
use Rattle.kob_policy_review.specs.Alike.{AnswerAlike, without}
use Rattle.kob_policy_review.specs.Needed.{needed}
use Rattle.kob_policy_review.specs.Redundancy.{ListsUnused, is_needed, is_outside, unneeded, unused_entry, unused_in}
use Rattle.kob_policy_review.specs.declared.redundant.Unneeded.{Unneeded}

pub filter_alike : {A : Type 0} (p q : A → Bool) (xs : List A) → ((x : A) → p x ≡ q x) → filter p xs ≡ filter q xs
filter_alike p q [] same = refl
filter_alike p q (x ∷ xs) same =
    ap (λ b. cond b (x ∷ filter p xs) (filter p xs)) (same x)
    ∙ ap (λ ys. cond (q x) (x ∷ ys) ys) (filter_alike p q xs same)

module _ (rules : Contents) (rising : IsRising 1 rules.entries rules.next) where
  listed : (entry : ℕ × Binding) → Contains rules.entries entry
      → Contains (map (unused_entry rules) (unneeded rules)) (unused_entry rules entry)
      → AnswerAlike rules (without entry.0 rules)
  listed entry there has =
      let (other, (in_list, same)) = given_by (unused_entry rules) (unneeded rules) (unused_entry rules entry) has in
      let kept = was_kept (is_outside (is_needed rules)) rules.entries other in_list in
      let serials : other.0 ≡ entry.0 = ap (λ (u : Unneeded). u.serial) same in
      subst (λ s. AnswerAlike rules (without s rules)) serials
      (alike_without rules rising other.0 (not-true _ kept.1))

  unlisted : (entry : ℕ × Binding) → Contains rules.entries entry → AnswerAlike rules (without entry.0 rules)
      → Contains (map (unused_entry rules) (unneeded rules)) (unused_entry rules entry)
  unlisted entry there alike =
      among_mapped (unused_entry rules) (unneeded rules) entry
      (kept_by_filter (is_outside (is_needed rules)) rules.entries entry there
      (elim (cases_Bool (list_any (λ other. other == entry.0) (needed rules))) [
        | inl some ↦ absurd (changes_without rules rising entry.0 some alike)
        | inr none ↦ ap not none
      ]))

  pub lists_unused : (found : List Unneeded) → found ≡ map (unused_entry rules) (unneeded rules)
      → ListsUnused rules found
  lists_unused found is = record {
    exact = λ entry there. (
      (λ has. listed entry there (subst (λ (us : List Unneeded). Contains us (unused_entry rules entry)) is has)),
      (λ alike. subst (λ (us : List Unneeded). Contains us (unused_entry rules entry)) (sym is)
          (unlisted entry there alike)),
    );
    only = all_of (λ (one : Unneeded). (entry : ℕ × Binding)
        × (Contains rules.entries entry × (one ≡ unused_entry rules entry))) found
        (λ one there.
        let (entry, (in_list, same)) = given_by (unused_entry rules) (unneeded rules) one
        (subst (λ (us : List Unneeded). Contains us one) is there) in
        (entry, ((was_kept (is_outside (is_needed rules)) rules.entries entry in_list).0, sym same)));
  }

-- what is outside a set of the needed serials is what is unused
pub unused_outside : (rules : Contents) (test : ℕ → Bool)
    → ((serial : ℕ) → test serial ≡ is_needed rules serial) → (found : List Unneeded)
    → found ≡ map (unused_entry rules) (filter (is_outside test) rules.entries) → found ≡ unused_in rules
unused_outside rules test same found is =
    is ∙ ap (map (unused_entry rules)) (filter_alike (is_outside test) (is_outside (is_needed rules)) rules.entries
    (λ entry. ap not (same entry.0)))

-- what is outside a set of the needed serials is listed
pub lists_outside : (rules : Contents) → IsRising 1 rules.entries rules.next → (test : ℕ → Bool)
    → ((serial : ℕ) → test serial ≡ is_needed rules serial) → (found : List Unneeded)
    → found ≡ map (unused_entry rules) (filter (is_outside test) rules.entries) → ListsUnused rules found
lists_outside rules rising test same found is =
    lists_unused rules rising found (unused_outside rules test same found is)
