-- A party that is put last in a list, and its text as a key in the tree beside it.
use Rattle.std.proofs.Common.{Bool, List, None, Option, Some, [], ap, false, inl, inr, refl, subst, sym, true, ℕ, ◌++◌, ◌||◌, ◌∙◌, ◌∷◌, ◌≡◌}
use Rattle.std.proofs.lemmas.Bool.{both_ways, cases_Bool}
use Rattle.std.proofs.lemmas.List.Folds.{list_any-append}
use Rattle.std.proofs.lemmas.Slice.Eq.{bytes_eq-Decides}
use Rattle.std.specs.FinMap as finite
use Rattle.std.specs.List.{list_any}
use Rattle.kob_names.specs.Same.{same_text}
use Rattle.kob_prefix_tree.proofs.HeldLaws.{held_added_other, held_added_same, held_empty}
use Rattle.kob_prefix_tree.specs.Held.{Held, PrefixMap, added, held}
use Rattle.kob_prefix_tree.specs.declared.kind.PatternKind.TheVariants.{Literal}
use Rattle.kob_policy_review.specs.Classes.{is_party}
use Rattle.kob_policy_review.specs.Finding.{is_held}

pub none_held : (text : List ℕ) → list_any (is_party text) (None ∷ []) ≡ is_held finite.empty text
none_held text = sym (ap (λ (h : Held). list_any (λ _. true) h.0) (held_empty text))

some_last : (xs : List ℕ) (x : ℕ) → list_any (λ _. true) (xs ++ x ∷ []) ≡ true
some_last [] x = refl
some_last (y ∷ xs) x = refl

or_false : (b : Bool) → (b || (false || false)) ≡ b
or_false true = refl
or_false false = refl

or_true : (b : Bool) → (b || (true || false)) ≡ true
or_true true = refl
or_true false = refl

-- what stands in a tree after a key is put there
pub key_put : (keys : PrefixMap) (key text : List ℕ)
    → is_held (added keys key Literal 0) text ≡ (is_held keys text || (same_text text key || false))
key_put keys key text =
    elim (cases_Bool (same_text text key)) [
      | inl is ↦
          let equal : text ≡ key = (bytes_eq-Decides text key).0 is in
          rw is (subst (λ (t : List ℕ). is_held (added keys key Literal 0) t ≡ true) (sym equal)
          (ap (λ (h : Held). list_any (λ _. true) h.0) (held_added_same keys key Literal 0)
          ∙ some_last (held keys key).0 0)
          ∙ sym (or_true (is_held keys text)))
      | inr other ↦
          rw other (ap (λ (h : Held). list_any (λ _. true) h.0)
          (held_added_other keys key Literal 0 text
          (λ equal. both_ways _ other ((bytes_eq-Decides text key).1 equal)))
          ∙ sym (or_false (is_held keys text)))
    ]

pub put_held : (made : List (Option (List ℕ))) (keys : PrefixMap) (key : List ℕ)
    → ((text : List ℕ) → list_any (is_party text) made ≡ is_held keys text)
    → (text : List ℕ) → list_any (is_party text) (made ++ Some key ∷ []) ≡ is_held (added keys key Literal 0) text
put_held made keys key same text =
    list_any-append (is_party text) made (Some key ∷ [])
    ∙ ap (λ b. b || (same_text text key || false)) (same text)
    ∙ sym (key_put keys key text)
