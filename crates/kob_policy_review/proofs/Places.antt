-- A tree that leads from entries to the places of the targets that they are on.
use Rattle.std.proofs.Common.{Contains, List, None, Option, Some, suc, zero, [], ap, arith, inl, inr, length, slice_get, subst, sym, true, ℕ, refl, ◌++◌, ◌+◌, ◌<◌, ◌∙◌, ◌∷◌, ◌≡◌, ◌≤◌, ◌⊎◌}
use Rattle.std.proofs.lemmas.Bool.{both_ways, cases_Bool}
use Rattle.std.proofs.lemmas.Bool.Decides.{nat_tests}
use Rattle.std.proofs.lemmas.List.Elements.{Contains-append_left, Contains-append_right}
use Rattle.std.proofs.lemmas.Option.{get_or_from_slice_get, slice_get_read, slice_get_within}
use Rattle.std.proofs.lemmas.Slice.Eq.{bytes_eq-Decides}
use Rattle.std.specs.Int.{to_be_bytes, w64}
use Rattle.std.specs.List.{fold, list_any}
use Rattle.kob_names.specs.Binding.{Binding}
use Rattle.kob_names.specs.Same.{same_text}
use Rattle.kob_authorizer.proofs.Entries.{any_passes, at_head, passing}
use Rattle.kob_prefix_tree.proofs.HeldLaws.{held_added_other, held_added_same}
use Rattle.kob_prefix_tree.specs.Held.{Held, PrefixMap, added, held}
use Rattle.kob_prefix_tree.specs.declared.kind.PatternKind.TheVariants.{Literal}
use Rattle.kob_policy_review.proofs.Standing.{first_or_rest, target_equal}
use Rattle.kob_policy_review.proofs.Texts.{same_when}
use Rattle.kob_policy_review.specs.Classes.{same_target}
use Rattle.kob_policy_review.specs.Finding.{text_of}
use Rattle.kob_policy_review.specs.Sites.{ArePlaced, LeadsToRows, is_at, places_in, with_place}
use Rattle.kob_policy_review.specs.declared.class.Target.{Target}

module _ (tree : PrefixMap) (key : List ℕ) (place : ℕ) where
  put_there : Contains (held (added tree key Literal place) key).0 place
  put_there =
      subst (λ (h : Held). Contains h.0 place) (sym (held_added_same tree key Literal place))
      (Contains-append_right (held tree key).0 (place ∷ []) place (at_head place []))

  kept_there : (other : List ℕ) (one : ℕ) → Contains (held tree other).0 one
      → Contains (held (added tree key Literal place) other).0 one
  kept_there other one there =
      elim (cases_Bool (same_text other key)) [
        | inl same ↦
            let is = (bytes_eq-Decides other key).0 same in
            subst (λ k. Contains (held (added tree key Literal place) k).0 one) (sym is)
            (subst (λ (h : Held). Contains h.0 one) (sym (held_added_same tree key Literal place))
            (Contains-append_left (held tree key).0 (place ∷ []) one
            (subst (λ k. Contains (held tree k).0 one) is there)))
        | inr apart ↦
            subst (λ (h : Held). Contains h.0 one)
            (sym (held_added_other tree key Literal place other
            (λ is. both_ways _ apart ((bytes_eq-Decides other key).1 is)))) there
      ]

module _ (place : ℕ) (tree : PrefixMap) (entry : ℕ × Binding) where
  place_put : Contains (places_in (with_place place tree entry) entry.0) place
  unfolding with_place
  place_put = put_there tree (to_be_bytes w64 entry.0) place

  place_kept : (serial other : ℕ) → Contains (places_in tree serial) other
      → Contains (places_in (with_place place tree entry) serial) other
  unfolding with_place
  place_kept serial other there =
      kept_there tree (to_be_bytes w64 entry.0) place (to_be_bytes w64 serial) other there

all_kept : (place : ℕ) (tree : PrefixMap) (entries : List (ℕ × Binding)) (serial other : ℕ)
    → Contains (places_in tree serial) other
    → Contains (places_in (fold (with_place place) tree entries) serial) other
all_kept place tree [] serial other there = there
all_kept place tree (entry ∷ rest) serial other there =
    all_kept place (with_place place tree entry) rest serial other (place_kept place tree entry serial other there)

all_put : (place : ℕ) (tree : PrefixMap) (entries : List (ℕ × Binding)) (entry : ℕ × Binding) → Contains entries entry
    → Contains (places_in (fold (with_place place) tree entries) entry.0) place
all_put place tree [] entry there = absurd (omega (arith, there.1))
all_put place tree (first ∷ rest) entry there =
    elim (first_or_rest first rest entry there) [
      | inl same ↦
          all_kept place (with_place place tree first) rest entry.0 place
          (subst (λ (e : ℕ × Binding). Contains (places_in (with_place place tree first) e.0) place) same
          (place_put place tree first))
      | inr later ↦ all_put place (with_place place tree first) rest entry later
    ]

-- so far, as at a step of a loop
abbrev pub LeadsBelow : List (List (ℕ × Binding)) → ℕ → PrefixMap → Type 0
LeadsBelow rows count tree =
    (place : ℕ) (row : List (ℕ × Binding)) (entry : ℕ × Binding) → place < count
    → slice_get rows place ≡ Some row → Contains row entry → Contains (places_in tree entry.0) place

pub leads_more : (rows : List (List (ℕ × Binding))) (count : ℕ) (tree : PrefixMap) (row : List (ℕ × Binding))
    → slice_get rows count ≡ Some row → LeadsBelow rows count tree
    → LeadsBelow rows (count + 1) (fold (with_place count) tree row)
leads_more rows count tree row at before place one entry below at_one there =
    elim (nat_cases place count below) [
      | inl earlier ↦ all_kept count tree row entry.0 place (before place one entry earlier at_one there)
      | inr is ↦
          let same : Some one ≡ Some row = sym at_one ∙ ap (slice_get rows) is ∙ at in
          let equal : one ≡ row = cc in
          subst (Contains (places_in (fold (with_place count) tree row) entry.0)) (sym is)
          (all_put count tree row entry (subst (λ r. Contains r entry) equal there))
    ]
  where
    nat_cases : (place count : ℕ) → place < count + 1 → (place < count) ⊎ (place ≡ count)
    nat_cases place count below = grind (arith, nat_tests)

pub leads_all : (rows : List (List (ℕ × Binding))) (count : ℕ) (tree : PrefixMap)
    → length rows ≤ count → LeadsBelow rows count tree → LeadsToRows rows tree
leads_all rows count tree all below place row entry at there =
    below place row entry (omega (arith, all, slice_get_within rows place row at)) at there

-- Targets, each at the text of its names.

pub still_placed : (targets : List Target) (tree : PrefixMap) (key : List ℕ) (place : ℕ) → ArePlaced targets tree
    → ArePlaced targets (added tree key Literal place)
still_placed targets tree key place placed one target at =
    kept_there tree key place (text_of target.names) one (placed one target at)

pub last_placed : (targets : List Target) (tree : PrefixMap) (last : Target) → ArePlaced targets tree
    → ArePlaced (targets ++ last ∷ []) (added tree (text_of last.names) Literal (length targets))
last_placed targets tree last placed place target at =
    elim (before_or_last targets place target at) [
      | inl before ↦ still_placed targets tree (text_of last.names) (length targets) placed place target before
      | inr is ↦
          subst (λ p. Contains (held (added tree (text_of last.names) Literal (length targets))
          (text_of target.names)).0 p)
          (sym is.0)
          (subst (λ (t : Target). Contains
          (held (added tree (text_of last.names) Literal (length targets)) (text_of t.names)).0
          (length targets)) is.1 (put_there tree (text_of last.names) (length targets)))
    ]
  where
    before_or_last : (xs : List Target) (place : ℕ) (target : Target)
        → slice_get (xs ++ last ∷ []) place ≡ Some target
        → (slice_get xs place ≡ Some target) ⊎ ((place ≡ length xs) × (last ≡ target))
    before_or_last [] zero target at = inr (refl, (let is : last ≡ target = cc in is))
    before_or_last [] (suc place) target at = absurd cc
    before_or_last (x ∷ xs) zero target at = inl at
    before_or_last (x ∷ xs) (suc place) target at =
        elim (before_or_last xs place target at) [
          | inl before ↦ inl before
          | inr is ↦ inr (ap suc is.0, is.1)
        ]

-- what is listed is found at the text of its names
pub listed_at : (targets : List Target) (tree : PrefixMap) (target : Target) → ArePlaced targets tree
    → list_any (λ place. is_at target (slice_get targets place)) (held tree (text_of target.names)).0
    ≡ list_any (same_target target) targets
listed_at targets tree target placed = same_when _ _
    (λ found.
    let (place, (there, is)) =
    passing (λ p. is_at target (slice_get targets p)) (held tree (text_of target.names)).0 found in
    elim (slice_get targets place) as (λ (t : Option Target).
    slice_get targets place ≡ t → is_at target t ≡ true → list_any (same_target target) targets ≡ true) [
      | None ↦ λ _ no_one. absurd cc
      | Some other ↦ λ at same.
          any_passes (same_target target) targets other
          (place, slice_get_within targets place other at, get_or_from_slice_get targets place other other at) same
    ] refl is)
    (λ found.
    let (other, (there, same)) = passing (same_target target) targets found in
    let at : slice_get targets there.0 ≡ Some other =
    slice_get_read targets _ there.0 other refl there.1 (sym there.2) in
    any_passes (λ p. is_at target (slice_get targets p)) (held tree (text_of target.names)).0 there.0
    (subst (λ (t : Target). Contains (held tree (text_of t.names)).0 there.0) (sym (target_equal target other same))
    (placed there.0 other at))
    (ap (is_at target) at ∙ same))
