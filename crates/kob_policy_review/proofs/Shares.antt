-- The bindings of who asks say on which of the names below a prefix something is granted.
use Rattle.kob_authorizer.proofs.Entries.{among_mapped, any_passes, at_head, given_by, passing, was_kept}
use Rattle.kob_authorizer.specs.Decide.{Contents}
use Rattle.kob_names.specs.Binding.{Binding}
use Rattle.kob_names.specs.declared.kinds.Operation.{Operation}
use Rattle.kob_names.specs.declared.kinds.Permission.TheVariants.{Allow, Deny}
use Rattle.kob_names.specs.declared.kinds.ResourceKind.{ResourceKind}
use Rattle.kob_policy_review.proofs.Reaching.{all_pass, each_passes}
use Rattle.kob_policy_review.proofs.Sharing.{all_wide, first_named, in_below, or_left, or_right, own_first}
use Rattle.kob_policy_review.proofs.Texts.{same_when}
use Rattle.kob_policy_review.specs.Below.{at_prefix, is_below, is_met_on, is_on_one, near_below, place_on, reach_from, reaches_below, reaches_by, share_of, targets_below, yes_at}
use Rattle.kob_policy_review.specs.Classes.{hosts_named, is_for, is_met, is_on, principals_named}
use Rattle.kob_policy_review.specs.Difference.{some_in}
use Rattle.kob_policy_review.specs.Needed.{is_super_party}
use Rattle.kob_policy_review.specs.Sharing.{allows_some, all_yes, first_of, is_near, is_opened, names_below, reach_near, reaches_near, some_yes}
use Rattle.kob_policy_review.specs.declared.below.Reach.{Reach}
use Rattle.kob_policy_review.specs.declared.class.Target.{Target}
use Rattle.kob_policy_review.specs.declared.named_below.Place.{Place}
use Rattle.std.proofs.Common.{Bool, Contains, List, Option, cond, true, false, not, map, sym, ap, refl, inl, inr, [], ◌∷◌, ◌||◌, ◌≡◌, ◌∙◌, ℕ}
use Rattle.std.proofs.lemmas.Bool.{and_from, and_parts, both_ways, false_from_ne_true, not-true, or_cases}
use Rattle.std.proofs.lemmas.List.Elements.{Contains-append_right}
use Rattle.std.specs.List.{filter, flat_map, list_all, list_any}

-- The bindings that are on some of the names.

module _ (rules : Contents) (resource : ResourceKind) (prefix : List ℕ) where
  abbrev those : List Target
  those = targets_below rules.entries resource prefix

  abbrev start : Target
  start = at_prefix resource prefix

  abbrev close : List (ℕ × Binding)
  close = near_below rules resource prefix

  near_is : (entry : ℕ × Binding) → Contains rules.entries entry
      → is_on_one those entry ≡ is_near start resource prefix entry
  near_is entry there = same_when _ _
      (λ found.
      let (one, (in_those, on)) = passing (λ t. is_on t entry) those found in
      let own = own_first rules resource prefix one entry in_those on in
      and_from (is_below resource prefix (first_of start entry)) (is_on (first_of start entry) entry) own.0 own.1.0)
      (λ is.
      let parts = and_parts (is_below resource prefix (first_of start entry)) (is_on (first_of start entry) entry)
      is in
      any_passes (λ t. is_on t entry) those (first_of start entry)
      (in_below rules resource prefix (first_of start entry) (first_named rules resource prefix entry there) parts.0)
      parts.1)

  filter_alike : (xs : List (ℕ × Binding)) → ((x : ℕ × Binding) → Contains xs x → Contains rules.entries x)
      → filter (is_near start resource prefix) xs ≡ filter (is_on_one those) xs
  filter_alike [] among = refl
  filter_alike (x ∷ xs) among =
      (λ i. cond (sym (near_is x (among x (at_head x xs))) i)
      (x ∷ filter_alike xs (λ y there. among y (Contains-append_right (x ∷ []) xs y there)) i)
      (filter_alike xs (λ y there. among y (Contains-append_right (x ∷ []) xs y there)) i))

  pub near_so : filter (is_near start resource prefix) rules.entries ≡ near_below rules resource prefix
  near_so = filter_alike rules.entries (λ _ there. there)

  -- What is granted to one principal at a host.

  module _ (principal : Option (List ℕ)) (host : Option (List ℕ)) (operation : Operation) where
    abbrev asking : List (ℕ × Binding)
    asking = filter (is_for principal) close

    abbrev spots : List Place
    spots = map (place_on rules) those

    abbrev yes : Place → Bool
    yes = yes_at asking host operation

    in_rules : (entry : ℕ × Binding) → Contains asking entry → Contains rules.entries entry
    in_rules entry there =
        (was_kept (is_on_one those) rules.entries entry (was_kept (is_for principal) close entry there).0).0

    -- it takes its first names below the prefix
    own_there : (entry : ℕ × Binding) → Contains asking entry
        → (Contains those (first_of start entry)) × (is_on (first_of start entry) entry ≡ true)
    own_there entry there =
        let is = (was_kept (is_on_one those) rules.entries entry
        (was_kept (is_for principal) close entry there).0).1 in
        let parts = and_parts (is_below resource prefix (first_of start entry)) (is_on (first_of start entry) entry)
        (sym (near_is entry (in_rules entry there)) ∙ is) in (
          in_below rules resource prefix (first_of start entry)
              (first_named rules resource prefix entry (in_rules entry there)) parts.0,
          parts.1,
        )

    abbrev denied : Target → Bool
    denied one = list_any (is_met_on one Deny host operation) asking

    abbrev allowed : Target → Bool
    allowed one = list_any (is_met_on one Allow host operation) asking

    yes_parts : (one : Target) → yes (place_on rules one) ≡ true
        → (denied one ≡ false) × ((allowed one || (place_on rules one).opened) ≡ true)
    yes_parts one is =
        let parts = and_parts (not (denied one)) (allowed one || (place_on rules one).opened) is in
        (not-true (denied one) parts.0, parts.1)

    yes_from : (one : Target) → denied one ≡ false → (allowed one || (place_on rules one).opened) ≡ true
        → yes (place_on rules one) ≡ true
    yes_from one none some =
        and_from (not (denied one)) (allowed one || (place_on rules one).opened) (ap not none) some

    -- no binding is on names that are open
    none_on : (one : Target) → (place_on rules one).opened ≡ true → (entry : ℕ × Binding) → Contains asking entry
        → is_on one entry ≡ false
    none_on one open_one entry there =
        false_from_ne_true (is_on one entry) (λ on.
        both_ways _ (not-true _ (and_parts rules.everyone (not (list_any (is_on one) rules.entries)) open_one).1)
        (any_passes (is_on one) rules.entries entry (in_rules entry there) on))

    met_parts : (one : Target) (entry : ℕ × Binding) → is_met_on one Deny host operation entry ≡ true
        → (is_on one entry ≡ true) × (is_met Deny host operation entry ≡ true)
    met_parts one entry is = and_parts (is_on one entry) (is_met Deny host operation entry) is

    none_denied : (one : Target) → (place_on rules one).opened ≡ true → denied one ≡ false
    none_denied one open_one =
        false_from_ne_true (denied one) (λ found.
        let (entry, (there, is)) = passing (is_met_on one Deny host operation) asking found in
        both_ways _ (none_on one open_one entry there) (met_parts one entry is).0)

    from_opened : list_any is_opened spots ≡ true → list_any yes spots ≡ true
    from_opened found =
        let (place, (there, opened)) = passing is_opened spots found in
        let (one, (in_those, is)) = given_by (place_on rules) those place there in
        let open_one : (place_on rules one).opened ≡ true = ap is_opened is ∙ opened in
        any_passes yes spots place there
        (ap yes (sym is) ∙ yes_from one (none_denied one open_one)
        (or_right (allowed one) ((place_on rules one).opened) open_one))

    from_allow : list_any (allows_some start host operation asking) asking ≡ true → list_any yes spots ≡ true
    from_allow found =
        let (entry, (there, is)) = passing (allows_some start host operation asking) asking found in
        let parts = and_parts (is_met Allow host operation entry) (not (denied (first_of start entry))) is in
        let (in_those, on) = own_there entry there in
        any_passes yes spots (place_on rules (first_of start entry))
        (among_mapped (place_on rules) those (first_of start entry) in_those)
        (yes_from (first_of start entry) (not-true _ parts.1)
        (or_left (allowed (first_of start entry)) ((place_on rules (first_of start entry)).opened)
        (any_passes (is_met_on (first_of start entry) Allow host operation) asking entry there
        (and_from (is_on (first_of start entry) entry) (is_met Allow host operation entry) on parts.0))))

    -- where it is granted on one place by an allow, it is granted on the first names of that
    by_allow : (one : Target) → Contains those one → denied one ≡ false → allowed one ≡ true
        → list_any (allows_some start host operation asking) asking ≡ true
    by_allow one in_those none found =
        let (entry, (there, is)) = passing (is_met_on one Allow host operation) asking found in
        let parts = and_parts (is_on one entry) (is_met Allow host operation entry) is in
        let own = own_first rules resource prefix one entry in_those parts.0 in
        let free : denied (first_of start entry) ≡ false =
        false_from_ne_true (denied (first_of start entry)) (λ denies.
        let (other, (other_there, met)) =
        passing (is_met_on (first_of start entry) Deny host operation) asking denies in
        let both = met_parts (first_of start entry) other met in
        both_ways _ none (any_passes (is_met_on one Deny host operation) asking other other_there
        (and_from (is_on one other) (is_met Deny host operation other) (own.1.1 other both.0) both.1))) in
        any_passes (allows_some start host operation asking) asking entry there
        (and_from (is_met Allow host operation entry) (not (denied (first_of start entry))) parts.1 (ap not free))

    some_so : some_yes (names_below rules resource prefix) asking host operation ≡ list_any yes spots
    some_so = same_when _ _
        (λ found.
        elim (or_cases (list_any is_opened spots) (list_any (allows_some start host operation asking) asking) found) [
          | inl open_one ↦ from_opened open_one
          | inr allow ↦ from_allow allow
        ])
        (λ found.
        let (place, (there, is_yes)) = passing yes spots found in
        let (one, (in_those, is)) = given_by (place_on rules) those place there in
        let parts = yes_parts one (ap yes is ∙ is_yes) in
        elim (or_cases (allowed one) ((place_on rules one).opened) parts.1) [
          | inl allow ↦ or_right (list_any is_opened spots) _ (by_allow one in_those parts.0 allow)
          | inr open_one ↦
              or_left (list_any is_opened spots) _
              (any_passes is_opened spots place there (ap is_opened (sym is) ∙ open_one))
        ])

    -- each deny is on some of the names
    no_denies : list_all yes spots ≡ true → list_any (is_met Deny host operation) asking ≡ false
    no_denies all =
        false_from_ne_true _ (λ found.
        let (entry, (there, met)) = passing (is_met Deny host operation) asking found in
        let (in_those, on) = own_there entry there in
        let here = each_passes yes spots (place_on rules (first_of start entry)) all
        (among_mapped (place_on rules) those (first_of start entry) in_those) in
        both_ways _ (yes_parts (first_of start entry) here).0
        (any_passes (is_met_on (first_of start entry) Deny host operation) asking entry there
        (and_from (is_on (first_of start entry) entry) (is_met Deny host operation entry) on met)))

    by_wide : list_any (is_met Deny host operation) asking ≡ false → allowed start ≡ true → list_all yes spots ≡ true
    by_wide none found =
        let (entry, (there, is)) = passing (is_met_on start Allow host operation) asking found in
        let parts = and_parts (is_on start entry) (is_met Allow host operation entry) is in
        all_pass yes spots (λ place in_spots.
        let (one, (in_those, is_one)) = given_by (place_on rules) those place in_spots in
        ap yes (sym is_one)
        ∙ yes_from one
        (false_from_ne_true (denied one) (λ denies.
        let (other, (other_there, met)) = passing (is_met_on one Deny host operation) asking denies in
        both_ways _ none (any_passes (is_met Deny host operation) asking other other_there
        (met_parts one other met).1)))
        (or_left (allowed one) ((place_on rules one).opened)
        (any_passes (is_met_on one Allow host operation) asking entry there
        (and_from (is_on one entry) (is_met Allow host operation entry)
        (all_wide rules resource prefix one entry in_those parts.0) parts.1))))

    all_so : all_yes (names_below rules resource prefix) asking host operation ≡ list_all yes spots
    all_so = same_when _ _
        (λ is.
        let parts = and_parts (not (list_any (is_met Deny host operation) asking))
        (allowed start || list_all yes spots) is in
        elim (or_cases (allowed start) (list_all yes spots) parts.1) [
          | inl wide_one ↦ by_wide (not-true _ parts.0) wide_one
          | inr all ↦ all
        ])
        (λ all.
        and_from (not (list_any (is_met Deny host operation) asking)) (allowed start || list_all yes spots)
        (ap not (no_denies all)) (or_right (allowed start) (list_all yes spots) all))

    reach_so : reach_near (names_below rules resource prefix) asking operation principal host
        ≡ reach_from spots asking operation principal host
    unfolding reach_near reach_from
    reach_so = λ i. record { principal = principal; host = host; share = share_of (some_so i) (all_so i) }

  module _ (operation : Operation) where
    by_so : (principal : Option (List ℕ))
        → reaches_near rules.supers (names_below rules resource prefix) close operation principal
        ≡ reaches_by rules.supers (map (place_on rules) those) close operation principal
    unfolding reaches_near reaches_by
    by_so principal =
        ap (λ (f : Option (List ℕ) → Reach). cond (is_super_party rules.supers principal) []
        (map f (hosts_named (filter (is_for principal) close))))
        (λ i host. reach_so principal host operation i)

    pub reaches_so : flat_map (reaches_near rules.supers (names_below rules resource prefix) close operation)
        (principals_named close)
        ≡ reaches_below rules operation resource prefix
    unfolding reaches_below
    reaches_so =
        ap (λ (f : Option (List ℕ) → List Reach). flat_map f (principals_named close))
        (λ i principal. by_so principal i)

-- some entry passes exactly if some is left of a filter by the test
pub some_kept : (test : ℕ × Binding → Bool) (entries : List (ℕ × Binding))
    → some_in (filter test entries) ≡ list_any test entries
some_kept test [] = refl
some_kept test (entry ∷ rest) =
    elim (test entry) as (λ b. some_in (cond b (entry ∷ filter test rest) (filter test rest))
    ≡ (b || list_any test rest)) [
      | true ↦ refl
      | false ↦ some_kept test rest
    ]
