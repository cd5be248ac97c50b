-- A binding is needed among those that are left exactly where one of its targets needs it.
use Rattle.std.proofs.Common.{Bool, Contains, List, None, Option, Some, Vec, [], ap, arith, codes, false, inl, inr, map, refl, slice_get, subst, sym, true, ℕ, ◌||◌, ◌∙◌, ◌∷◌, ◌≡◌, ◌⊎◌}
use Rattle.std.proofs.lemmas.Bool.{both_ways, cases_Bool, eqb-true, or_cases}
use Rattle.std.proofs.lemmas.Option.{get_or_from_slice_get, slice_get-map, slice_get_read, slice_get_within}
use Rattle.std.proofs.lemmas.Slice.Eq.{bytes_eq-Decides}
use Rattle.std.specs.List.{filter, flat_map, list_any}
use Rattle.std.specs.Option.{option_map, option_to_list}
use Rattle.kob_names.specs.Binding.{Binding}
use Rattle.kob_names.specs.Same.{same_text}
use Rattle.kob_names.specs.declared.kinds.Operation.{Operation}
use Rattle.kob_names.specs.declared.kinds.Permission.{Permission}
use Rattle.kob_names.specs.declared.kinds.Permission.TheVariants.{Allow, Deny}
use Rattle.kob_authorizer.proofs.Entries.{any_passes, at_head, given_by, kept_by_filter, passing, rising_filter, was_kept}
use Rattle.kob_authorizer.specs.Decide.{Contents, IsRising}
use Rattle.kob_prefix_tree.specs.Held.{PrefixMap}
use Rattle.kob_policy_review.proofs.Alone.{filter_swap, one_of_serial}
use Rattle.kob_policy_review.proofs.Needing.{alike_over, alike_without, any_flat, changes_over, changes_without, is_it, needed_over, some_flat, super_by, unfolded_by, unfolded_from, unfolded_on}
use Rattle.kob_policy_review.proofs.Standing.{any_alike, others_there, named_there, first_or_rest}
use Rattle.kob_policy_review.proofs.Texts.{same_when}
use Rattle.kob_policy_review.specs.Classes.{hosts_named, is_for, is_on, operations, principals_named, targets_named, with_principal}
use Rattle.kob_policy_review.specs.Needed.{closing, is_super_party, met, needed_by, needed_for, needed_from, needed_on, needed_to}
use Rattle.kob_policy_review.specs.Redundancy.{is_needed, is_outside}
use Rattle.kob_policy_review.specs.Removal.{concerned, is_needed_at, is_needed_in, without_those}
use Rattle.kob_policy_review.specs.Sites.{LeadsToRows, is_needed_of, places_in, row_on, rows_of}
use Rattle.kob_policy_review.specs.declared.class.Target.{Target}

sure : (b : Bool) → (b || false) ≡ true → b ≡ true
sure true h = refl
sure false h = h

-- what is needed for an answer closes what else is open, or is met
for_some : (alone : Option ℕ) (denies allows : List ℕ) (s : ℕ)
    → list_any (is_it s) (option_to_list (needed_for alone denies allows)) ≡ true
    → (alone ≡ Some s) ⊎ (Contains denies s ⊎ Contains allows s)
for_some (Some c) denies [] s found = inl (ap Some (eqb-true c s (sure _ found)))
for_some (Some c) denies (allow ∷ more) s found = absurd cc
for_some None [] [] s found = absurd cc
for_some None [] (allow ∷ []) s found =
    inr (inr (subst (λ x. Contains (allow ∷ []) x) (eqb-true allow s (sure _ found)) (at_head allow [])))
for_some None [] (allow ∷ (other ∷ more)) s found = absurd cc
for_some None (deny ∷ []) [] s found = absurd cc
for_some None (deny ∷ []) (allow ∷ more) s found =
    inr (inl (subst (λ x. Contains (deny ∷ []) x) (eqb-true deny s (sure _ found)) (at_head deny [])))
for_some None (deny ∷ (other ∷ more)) [] s found = absurd cc
for_some None (deny ∷ (other ∷ more)) (allow ∷ rest) s found = absurd cc

-- what is met asks
met_asks : (permission : Permission) (host : Option (List ℕ)) (operation : Operation) (asking : List (ℕ × Binding))
    (s : ℕ)
    → Contains (met permission host operation asking) s → (x : ℕ × Binding) × (Contains asking x × (x.0 ≡ s))
met_asks permission host operation asking s there =
    let (x, (in_list, same)) = given_by (λ (entry : ℕ × Binding). entry.0) _ s there in
    (x, ((was_kept _ asking x in_list).0, same))

to_some : (alone : Option ℕ) (asking : List (ℕ × Binding)) (host : Option (List ℕ)) (operation : Operation) (s : ℕ)
    → list_any (is_it s) (needed_to alone asking host operation) ≡ true
    → (alone ≡ Some s) ⊎ ((x : ℕ × Binding) × (Contains asking x × (x.0 ≡ s)))
unfolding needed_to
to_some alone asking host operation s found =
    elim (for_some alone (met Deny host operation asking) (met Allow host operation asking) s found) [
      | inl closes ↦ inl closes
      | inr (inl denies) ↦ inr (met_asks Deny host operation asking s denies)
      | inr (inr allows) ↦ inr (met_asks Allow host operation asking s allows)
    ]

module _ (supers : List (List ℕ)) (everyone : Bool) (matching : List (ℕ × Binding)) (principal : Option (List ℕ))
    (s : ℕ) where
  by_some : list_any (is_it s) (needed_by supers everyone matching principal) ≡ true
      → (closing everyone matching ≡ Some s)
      ⊎ ((x : ℕ × Binding) × (Contains matching x × ((is_for principal x ≡ true) × (x.0 ≡ s))))
  by_some found =
      elim (cases_Bool (is_super_party supers principal)) [
        | inl super ↦ absurd (both_ways _ (super_by s supers everyone matching principal super) found)
        | inr plain ↦
            let asking : List (ℕ × Binding) = filter (is_for principal) matching in
            let (host, (from, at_host)) = some_flat (is_it s) (needed_from (closing everyone matching) asking)
            (hosts_named asking) (ap (list_any (is_it s))
            (sym (unfolded_by s supers everyone matching principal plain)) ∙ found) in
            let (operation, (op, at)) =
            some_flat (is_it s) (needed_to (closing everyone matching) asking host) operations
            (ap (list_any (is_it s)) (sym (unfolded_from s (closing everyone matching) asking host)) ∙ at_host) in
            elim (to_some (closing everyone matching) asking host operation s at) [
              | inl closes ↦ inl closes
              | inr some ↦
                  let kept = was_kept (is_for principal) matching some.0 some.1.0 in
                  inr (some.0, (kept.0, (kept.1, some.1.1)))
            ]
      ]

closed_alone : (everyone : Bool) (matching : List (ℕ × Binding)) (s : ℕ) → closing everyone matching ≡ Some s
    → (x : ℕ × Binding) × ((matching ≡ x ∷ []) × (x.0 ≡ s))
closed_alone true (x ∷ []) s is = let same : x.0 ≡ s = cc in (x, (refl, same))
closed_alone true [] s is = absurd cc
closed_alone true (x ∷ (y ∷ rest)) s is = absurd cc
closed_alone false matching s is = absurd cc

module _ (supers : List (List ℕ)) (everyone : Bool) (matching : List (ℕ × Binding)) (entry : ℕ × Binding)
    (alone : (x : ℕ × Binding) → Contains matching x → x.0 ≡ entry.0 → x ≡ entry) where
  abbrev has : Option (List ℕ) → Bool
  has principal = list_any (is_it entry.0) (needed_by supers everyone matching principal)

  -- it is among those that match, and covers the principal or is alone
  found_there : (principal : Option (List ℕ)) → has principal ≡ true
      → Contains matching entry × ((matching ≡ entry ∷ []) ⊎ (is_for principal entry ≡ true))
  found_there principal found =
      elim (by_some supers everyone matching principal entry.0 found) [
        | inl closes ↦
            let (x, (only, same)) = closed_alone everyone matching entry.0 closes in
            let there : Contains matching x = subst (λ xs. Contains xs x) (sym only) (at_head x []) in
            let is = alone x there same in
            (subst (Contains matching) is there, inl (subst (λ y. matching ≡ y ∷ []) is only))
        | inr some ↦
            let is = alone some.0 some.1.0 some.1.1.1 in
            (subst (Contains matching) is some.1.0, inr (subst (λ y. is_for principal y ≡ true) is some.1.1.0))
      ]

  -- a principal whom the entry covers, if it does not cover all
  its_own : (principal : Option (List ℕ)) → same_text entry.1.principal (codes "User:*") ≡ false
      → is_for principal entry ≡ true → principal ≡ Some entry.1.principal
  its_own None narrow covers = absurd (both_ways _ narrow covers)
  its_own (Some party) narrow covers =
      elim (or_cases (same_text entry.1.principal party) (same_text entry.1.principal (codes "User:*")) covers) [
        | inl same ↦ ap Some (sym ((bytes_eq-Decides entry.1.principal party).0 same))
        | inr all ↦ absurd (both_ways _ narrow all)
      ]

  alone_named : principals_named (entry ∷ []) ≡ None ∷ Some entry.1.principal ∷ []
  unfolding with_principal
  alone_named = refl

  concerns : (principal : Option (List ℕ)) → Contains (principals_named matching) principal → has principal ≡ true
      → Contains (concerned entry matching) principal
  concerns principal there found =
      elim (cases_Bool (same_text entry.1.principal (codes "User:*"))) [
        | inl all ↦ rw all there
        | inr narrow ↦
            rw narrow
            (elim (found_there principal found).1 [
              | inl only ↦ subst (λ ps. Contains ps principal) (ap principals_named only ∙ alone_named) there
              | inr covers ↦
                  subst (Contains (None ∷ Some entry.1.principal ∷ [])) (sym (its_own principal narrow covers))
                  (1, omega arith, refl)
            ])
      ]

  is_named : (principal : Option (List ℕ)) → Contains (concerned entry matching) principal → has principal ≡ true
      → Contains (principals_named matching) principal
  is_named principal there found =
      elim (cases_Bool (same_text entry.1.principal (codes "User:*"))) [
        | inl all ↦ rw all at there
        | inr narrow ↦
            elim (first_or_rest None (Some entry.1.principal ∷ []) principal (rw narrow at there)) [
              | inl others ↦ subst (Contains (principals_named matching)) others (others_there matching)
              | inr rest ↦
                  elim (first_or_rest (Some entry.1.principal) [] principal rest) [
                    | inl own ↦
                        subst (Contains (principals_named matching)) own
                        (named_there matching entry (found_there principal found).0)
                    | inr none ↦ absurd (omega (arith, none.1))
                  ]
            ]
      ]

  -- the principals whom it concerns are enough
  pub narrowed : is_needed_in supers everyone matching entry
      ≡ list_any (is_it entry.0) (flat_map (needed_by supers everyone matching) (principals_named matching))
  narrowed = same_when _ _
      (λ found.
      let (principal, (there, holds)) = some_flat (is_it entry.0) (needed_by supers everyone matching)
      (concerned entry matching) found in
      any_flat (is_it entry.0) (needed_by supers everyone matching) (principals_named matching)
      ∙ any_passes has (principals_named matching) principal (is_named principal there holds) holds)
      (λ found.
      let (principal, (there, holds)) = some_flat (is_it entry.0) (needed_by supers everyone matching)
      (principals_named matching) found in
      any_flat (is_it entry.0) (needed_by supers everyone matching) (concerned entry matching)
      ∙ any_passes has (concerned entry matching) principal (concerns principal there holds) holds)

module _ (rules : Contents) (rising : IsRising 1 rules.entries rules.next) (gone : ℕ → Bool) (entry : ℕ × Binding)
    (in_force : Contains rules.entries entry) where
  abbrev left : Contents
  left = without_those gone rules

  left_rising : IsRising 1 left.entries left.next
  left_rising = rising_filter (is_outside gone) 1 rules.next rules.entries rising

  within : (x : ℕ × Binding) → Contains left.entries x → Contains rules.entries x
  within x there = (was_kept (is_outside gone) rules.entries x there).0

  at_target : (target : Target) → is_needed_at rules gone entry (Some target)
      ≡ list_any (is_it entry.0) (needed_on left target)
  at_target target =
      let matching : List (ℕ × Binding) = filter (is_outside gone) (filter (is_on target) rules.entries) in
      narrowed rules.supers rules.everyone matching entry
      (λ x there same.
      one_of_serial 1 rules.next rules.entries x entry rising
      ((was_kept (is_on target) rules.entries x
      (was_kept (is_outside gone) (filter (is_on target) rules.entries) x there).0).0)
      in_force same)
      ∙ ap (λ (m : List (ℕ × Binding)). list_any (is_it entry.0)
      (flat_map (needed_by rules.supers rules.everyone m) (principals_named m)))
      (filter_swap (is_outside gone) (is_on target) rules.entries)
      ∙ sym (unfolded_on entry.0 left target)

  -- where it is needed, it is on the target
  on_it : (target : Target) → list_any (is_it entry.0) (needed_on left target) ≡ true → is_on target entry ≡ true
  on_it target found =
      let matching : List (ℕ × Binding) = filter (is_on target) left.entries in
      let (principal, (there, holds)) = some_flat (is_it entry.0) (needed_by rules.supers rules.everyone matching)
      (principals_named matching) (sym (unfolded_on entry.0 left target) ∙ found) in
      let found_it = found_there rules.supers rules.everyone matching entry
      (λ x in_list same. one_of_serial 1 rules.next rules.entries x entry rising
      (within x (was_kept (is_on target) left.entries x in_list).0) in_force same) principal holds in
      (was_kept (is_on target) left.entries entry found_it.0).1

  module _ (tree : PrefixMap)
      (leads : LeadsToRows (map (row_on rules.entries) (targets_named rules.entries)) tree) where
    abbrev at_place : ℕ → Bool
    at_place place = is_needed_at rules gone entry (slice_get (targets_named rules.entries) place)

    at_some : (place : ℕ) → at_place place ≡ true
        → list_any (is_it entry.0) (needed_over rules.entries left) ≡ true
    at_some place holds =
        elim (slice_get (targets_named rules.entries) place) as (λ (t : Option Target).
        slice_get (targets_named rules.entries) place ≡ t → is_needed_at rules gone entry t ≡ true
        → list_any (is_it entry.0) (needed_over rules.entries left) ≡ true) [
          | None ↦ λ _ no_one. absurd cc
          | Some target ↦ λ at found.
              any_flat (is_it entry.0) (needed_on left) (targets_named rules.entries)
              ∙ any_passes (λ t. list_any (is_it entry.0) (needed_on left t)) (targets_named rules.entries) target (
                place,
                slice_get_within (targets_named rules.entries) place target at,
                get_or_from_slice_get (targets_named rules.entries) place target target at,
              )
              (sym (at_target target) ∙ found)
        ] refl holds

    some_at : list_any (is_it entry.0) (needed_over rules.entries left) ≡ true
        → list_any at_place (places_in tree entry.0) ≡ true
    some_at found =
        let (target, (there, holds)) =
        some_flat (is_it entry.0) (needed_on left) (targets_named rules.entries) found in
        let at : slice_get (targets_named rules.entries) there.0 ≡ Some target =
        slice_get_read (targets_named rules.entries) _ there.0 target refl there.1 (sym there.2) in
        any_passes at_place (places_in tree entry.0) there.0
        (leads there.0 (row_on rules.entries target) entry
        (slice_get-map (row_on rules.entries) (targets_named rules.entries) there.0
        ∙ ap (option_map (row_on rules.entries)) at)
        (kept_by_filter (is_on target) rules.entries entry in_force (on_it target holds)))
        (ap (is_needed_at rules gone entry) at ∙ at_target target ∙ holds)

    pub needed_is_at : list_any at_place (places_in tree entry.0) ≡ is_needed left entry.0
    needed_is_at = same_when _ _
        (λ found.
        let (place, (there, holds)) = passing at_place (places_in tree entry.0) found in
        elim (cases_Bool (is_needed left entry.0)) [
          | inl is ↦ is
          | inr none ↦
              absurd (changes_over left left_rising entry.0 rules.entries within (at_some place holds)
              (alike_without left left_rising entry.0 none))
        ])
        (λ is.
        elim (cases_Bool (list_any (is_it entry.0) (needed_over rules.entries left))) [
          | inl found ↦ some_at found
          | inr none ↦
              absurd (changes_without left left_rising entry.0 is
              (alike_over left left_rising entry.0 rules.entries within none))
        ])

abbrev by_row : Contents → (ℕ → Bool) → ℕ × Binding → Option (List (ℕ × Binding)) → Bool
by_row rules gone entry None = false
by_row rules gone entry (Some row) = is_needed_in rules.supers rules.everyone (filter (is_outside gone) row) entry

-- the rows are those of the targets
module _ {A : Type 0} (rules : Contents) (gone : ℕ → Bool) (entry : ℕ × Binding) (near : List (Vec (ℕ × Binding) A))
    (rows : rows_of near ≡ map (row_on rules.entries) (targets_named rules.entries)) where
  of_vec : (row : Option (Vec (ℕ × Binding) A))
      → is_needed_of rules gone entry row
      ≡ by_row rules gone entry (option_map (λ (vec : Vec (ℕ × Binding) A). vec.items) row)
  of_vec None = refl
  of_vec (Some row) = refl

  of_target : (target : Option Target)
      → is_needed_at rules gone entry target ≡ by_row rules gone entry (option_map (row_on rules.entries) target)
  of_target None = refl
  of_target (Some target) = refl

  at_row : (place : ℕ) → is_needed_of rules gone entry (slice_get near place)
      ≡ is_needed_at rules gone entry (slice_get (targets_named rules.entries) place)
  at_row place =
      of_vec (slice_get near place)
      ∙ ap (by_row rules gone entry) (sym (slice_get-map (λ (vec : Vec (ℕ × Binding) A). vec.items) near place)
      ∙ ap (λ (rs : List (List (ℕ × Binding))). slice_get rs place) rows
      ∙ slice_get-map (row_on rules.entries) (targets_named rules.entries) place)
      ∙ sym (of_target (slice_get (targets_named rules.entries) place))

  pub at_rows : (places : List ℕ) → list_any (λ place. is_needed_of rules gone entry (slice_get near place)) places
      ≡ list_any (λ place. is_needed_at rules gone entry (slice_get (targets_named rules.entries) place)) places
  at_rows places = any_alike _ _ places (λ place there. at_row place)
