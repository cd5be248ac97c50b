-- Of the names below a prefix that a binding is on, those that the fewest others are on.
use Rattle.std.proofs.Common.{Bool, Contains, List, cond, true, false, nat_eq, append-nil, append_assoc, codes, drop, length, map, sym, subst, ap, refl, arith, inl, inr, [], ◌∷◌, ◌++◌, ◌&&◌, ◌||◌, ◌≡◌, ◌≤◌, ◌⊎◌, ◌∙◌, ℕ}
use Rattle.std.proofs.lemmas.Bool.{and_from, and_parts, both_ways, cases_Bool, or_cases}
use Rattle.std.proofs.lemmas.Bool.Decides.{nat_tests}
use Rattle.std.proofs.lemmas.List.Elements.{Contains-append_right}
use Rattle.std.proofs.lemmas.Slice.Eq.{bytes_eq-Decides}
use Rattle.std.specs.List.{starts_with}
use Rattle.kob_names.proofs.SameBindings.{resource_decides}
use Rattle.kob_names.specs.Binding.{Binding, matches_by}
use Rattle.kob_names.specs.Same.{same_resource, same_text}
use Rattle.kob_names.specs.declared.kinds.PatternKind.{PatternKind}
use Rattle.kob_names.specs.declared.kinds.PatternKind.TheVariants.{Literal, Prefixed}
use Rattle.kob_names.specs.declared.kinds.ResourceKind.{ResourceKind}
use Rattle.kob_names.specs.declared.kinds.ResourceKind.TheVariants.{Topic, Group, Cluster, TransactionalId}
use Rattle.kob_names.specs.declared.pattern.Pattern.{Pattern}
use Rattle.kob_authorizer.proofs.Entries.{among_mapped, at_head, was_kept}
use Rattle.kob_authorizer.specs.Decide.{Contents}
use Rattle.kob_policy_review.proofs.Finding.{on_text}
use Rattle.kob_policy_review.proofs.Marks.{cluster_alone}
use Rattle.kob_policy_review.proofs.Reaching.{as_entry, target_below, with_prefix}
use Rattle.kob_policy_review.proofs.Standing.{only_named}
use Rattle.kob_policy_review.proofs.Texts.{begins, begins_so, starts_below}
use Rattle.kob_policy_review.specs.Below.{at_prefix, is_below, near_below, targets_below}
use Rattle.kob_policy_review.specs.Classes.{is_on, matches_below, matches_names, names_by, open_targets, target, target_by, target_of, targets, the_cluster}
use Rattle.kob_policy_review.specs.Finding.{text_of}
use Rattle.kob_policy_review.specs.Sharing.{first_of}
use Rattle.kob_policy_review.specs.declared.class.Names.{Names}
use Rattle.kob_policy_review.specs.declared.class.Names.TheVariants.{Exactly, Below}
use Rattle.kob_policy_review.specs.declared.class.Target.{Target}

pub or_left : (a b : Bool) → a ≡ true → (a || b) ≡ true
or_left true b is = refl
or_left false b is = absurd cc

pub or_right : (a b : Bool) → b ≡ true → (a || b) ≡ true
or_right true b is = refl
or_right false b is = is

starts_itself : (text : List ℕ) → starts_with nat_eq text text ≡ true
starts_itself text = begins_so text text [] (sym (append-nil text))

starts_more : (text start front : List ℕ) → starts_with nat_eq text start ≡ true
    → starts_with nat_eq start front ≡ true
    → starts_with nat_eq text front ≡ true
starts_more text start front of_text of_start =
    begins_so text front (drop (length front) start ++ drop (length start) text)
    (begins text start of_text ∙ ap (λ t. t ++ drop (length start) text) (begins start front of_start)
    ∙ append_assoc front (drop (length front) start) (drop (length start) text))

same_itself : (text : List ℕ) → same_text text text ≡ true
same_itself text = (bytes_eq-Decides text text).1 refl

-- what is on the names below a text is on all names that begin with it
widens : (kind : PatternKind) (bound start : List ℕ) (names : Names) → matches_below kind bound start ≡ true
    → starts_with nat_eq (text_of names) start ≡ true
    → matches_names (record { kind = kind; name = bound }) names ≡ true
widens Literal bound start (Exactly name) on starts = or_right (same_text bound name) (same_text bound (codes "*")) on
widens Literal bound start (Below text) on starts = on
widens Prefixed bound start (Exactly name) on starts = starts_more name start bound starts on
widens Prefixed bound start (Below text) on starts = starts_more text start bound starts on

-- of a text that two texts begin, one of the two begins the other
one_begins : (text one other : List ℕ) → starts_with nat_eq text one ≡ true → starts_with nat_eq text other ≡ true
    → (starts_with nat_eq one other ≡ true) ⊎ (starts_with nat_eq other one ≡ true)
one_begins text one other of_one of_other =
    elim (shorter (length other) (length one)) [
      | inl le ↦ inl (sym (starts_below text one other of_one (λ _. le)) ∙ of_other)
      | inr le ↦ inr (sym (starts_below text other one of_other (λ _. le)) ∙ of_one)
    ]
  where
    shorter : (a b : ℕ) → (a ≤ b) ⊎ (b ≤ a)
    shorter a b = grind (arith, nat_tests)

-- Of the names that a pattern is on, those that it takes first.

-- the pattern is on the names that begin with the prefix, or takes first what begins with it
takes_below : (kind : PatternKind) (name prefix : List ℕ) (names : Names)
    → matches_names (record { kind = kind; name = name }) names ≡ true
    → starts_with nat_eq (text_of names) prefix ≡ true → matches_below kind name prefix ≡ false
    → (starts_with nat_eq (text_of (names_by kind name)) prefix ≡ true)
    × (matches_names (record { kind = kind; name = name }) (names_by kind name) ≡ true)
takes_below Literal name prefix names on starts apart =
    let same : same_text name (text_of names) ≡ true =
    elim (or_cases (same_text name (text_of names)) (same_text name (codes "*")) (on_text Literal name names on)) [
      | inl is ↦ is
      | inr star ↦ absurd (both_ways _ apart star)
    ] in
    rw apart (
      subst (λ (t : List ℕ). starts_with nat_eq t prefix ≡ true)
          (sym ((bytes_eq-Decides name (text_of names)).0 same)) starts,
      or_left (same_text name name) (same_text name (codes "*")) (same_itself name),
    )
takes_below Prefixed name prefix names on starts apart =
    elim (one_begins (text_of names) name prefix (on_text Prefixed name names on) starts) [
      | inl longer ↦ (longer, starts_itself name)
      | inr shorter ↦ absurd (both_ways _ apart shorter)
    ]

-- what is on those is on all that the pattern is on
first_least : (kind other : PatternKind) (name bound : List ℕ) (names : Names)
    → matches_names (record { kind = kind; name = name }) names ≡ true
    → (kind ≡ Literal → same_text name (codes "*") ≡ false)
    → matches_names (record { kind = other; name = bound }) (names_by kind name) ≡ true
    → matches_names (record { kind = other; name = bound }) names ≡ true
first_least Literal other name bound (Exactly text) on plain is =
    let none = plain refl in
    let same : same_text name text ≡ true =
    elim (or_cases (same_text name text) (same_text name (codes "*")) on) [
      | inl same ↦ same
      | inr star ↦ absurd (both_ways _ none star)
    ] in
    let here : matches_by other bound name ≡ true = rw none at is in
    subst (λ (t : List ℕ). matches_by other bound t ≡ true) ((bytes_eq-Decides name text).0 same) here
first_least Literal other name bound (Below text) on plain is = absurd (both_ways _ (plain refl) on)
first_least Prefixed other name bound names on plain is =
    widens other bound name names is (on_text Prefixed name names on)

module _ (rules : Contents) (resource : ResourceKind) (prefix : List ℕ) where
  abbrev first : Target
  first = at_prefix resource prefix

  abbrev below : List Target
  below = targets_below rules.entries resource prefix

  abbrev near : List (ℕ × Binding)
  near = near_below rules resource prefix

  pub first_named : (entry : ℕ × Binding) → Contains rules.entries entry
      → Contains (targets (as_entry resource prefix ∷ rules.entries)) (first_of first entry)
  first_named entry there =
      elim (is_on first entry) as (λ b.
      Contains (targets (as_entry resource prefix ∷ rules.entries)) (cond b first (target_of entry))) [
        | true ↦
            Contains-append_right open_targets (map target_of (as_entry resource prefix ∷ rules.entries)) first
            (among_mapped target_of (as_entry resource prefix ∷ rules.entries) (as_entry resource prefix)
            (at_head (as_entry resource prefix) rules.entries))
        | false ↦
            Contains-append_right open_targets (map target_of (as_entry resource prefix ∷ rules.entries))
            (target_of entry)
            (among_mapped target_of (as_entry resource prefix ∷ rules.entries) entry
            (Contains-append_right (as_entry resource prefix ∷ []) rules.entries entry there))
      ]

  -- a target below the prefix is of the kind, and its text begins with the prefix
  of_below : (one : Target) → Contains below one
      → (Contains (targets (as_entry resource prefix ∷ rules.entries)) one) × (is_below resource prefix one ≡ true)
  of_below one there =
      let (in_all, is) = was_kept (is_below resource prefix) _ one there in (
        only_named open_targets (as_entry resource prefix ∷ rules.entries) one
            (subst (λ (ts : List Target). Contains ts one) (sym (with_prefix resource prefix rules.entries)) in_all),
        is,
      )

  pub in_below : (one : Target) → Contains (targets (as_entry resource prefix ∷ rules.entries)) one
      → is_below resource prefix one ≡ true → Contains below one
  in_below one named is =
      let parts = and_parts (same_resource one.resource resource) (starts_with nat_eq (text_of one.names) prefix)
      is in
      target_below rules resource prefix one named ((resource_decides one.resource resource).0 parts.0) parts.1

  -- the cluster has one name
  module _ (one : Target) (there : Contains below one) (of_cluster : resource ≡ Cluster) where
    alone : one ≡ first
    alone =
        let (named, is) = of_below one there in
        let parts = and_parts (same_resource one.resource resource) (starts_with nat_eq (text_of one.names) prefix)
        is in
        cluster_alone (as_entry resource prefix ∷ rules.entries) one named
        ((resource_decides one.resource resource).0 parts.0 ∙ of_cluster)
        ∙ ap (λ k. target_by k (record { kind = Prefixed; name = prefix })) (sym of_cluster)

  -- A kind of resource with many names.

  module _ (plain : (pattern : Pattern)
      → target_by resource pattern ≡ target resource (names_by pattern.kind pattern.name))
      (one : Target) (there : Contains below one) where
    of_kind : one.resource ≡ resource
    of_kind =
        (resource_decides one.resource resource).0
        (and_parts (same_resource one.resource resource) (starts_with nat_eq (text_of one.names) prefix)
        (of_below one there).1).0

    starts : starts_with nat_eq (text_of one.names) prefix ≡ true
    starts =
        (and_parts (same_resource one.resource resource) (starts_with nat_eq (text_of one.names) prefix)
        (of_below one there).1).1

    first_is : first ≡ target resource (Below prefix)
    first_is = plain (record { kind = Prefixed; name = prefix })

    -- what is on the names that begin with the prefix is on all that do
    wide : (other : ℕ × Binding) → is_on first other ≡ true → is_on one other ≡ true
    wide other is =
        let parts = and_parts (same_resource other.1.resource resource)
        (matches_below other.1.pattern.kind other.1.pattern.name prefix)
        (ap (λ (t : Target). is_on t other) (sym first_is) ∙ is) in
        and_from (same_resource other.1.resource one.resource) (matches_names other.1.pattern one.names)
        (ap (same_resource other.1.resource) of_kind ∙ parts.0)
        (widens other.1.pattern.kind other.1.pattern.name prefix one.names parts.1 starts)

    begins_first : is_below resource prefix first ≡ true
    begins_first =
        ap (is_below resource prefix) first_is
        ∙ and_from (same_resource resource resource) (starts_with nat_eq prefix prefix)
        ((resource_decides resource resource).1 refl) (starts_itself prefix)

    module _ (entry : ℕ × Binding) (on : is_on one entry ≡ true) where
      abbrev kind_is : PatternKind
      kind_is = entry.1.pattern.kind

      abbrev name_is : List ℕ
      name_is = entry.1.pattern.name

      entry_kind : entry.1.resource ≡ resource
      entry_kind =
          (resource_decides entry.1.resource one.resource).0
          (and_parts (same_resource entry.1.resource one.resource) (matches_names entry.1.pattern one.names) on).0
          ∙ of_kind

      on_names : matches_names entry.1.pattern one.names ≡ true
      on_names = (and_parts (same_resource entry.1.resource one.resource) (matches_names entry.1.pattern one.names)
          on).1

      own_is : target_of entry ≡ target resource (names_by kind_is name_is)
      own_is = ap (λ k. target_by k entry.1.pattern) entry_kind ∙ plain entry.1.pattern

      on_first : is_on first entry ≡ matches_below kind_is name_is prefix
      on_first =
          ap (λ (t : Target). is_on t entry) first_is
          ∙ ap (λ b. b && matches_below kind_is name_is prefix)
          ((resource_decides entry.1.resource resource).1 entry_kind)

      apart_is : is_on first entry ≡ false → matches_below kind_is name_is prefix ≡ false
      apart_is apart = sym on_first ∙ apart

      -- it takes its first names below the prefix
      own_below : is_on first entry ≡ false → (is_below resource prefix (target_of entry) ≡ true)
          × (is_on (target_of entry) entry ≡ true)
      own_below apart =
          let taken = takes_below kind_is name_is prefix one.names on_names starts (apart_is apart) in (
            ap (is_below resource prefix) own_is
                ∙ and_from (same_resource resource resource)
                (starts_with nat_eq (text_of (names_by kind_is name_is)) prefix)
                ((resource_decides resource resource).1 refl) taken.0,
            ap (λ (t : Target). is_on t entry) own_is
                ∙ and_from (same_resource entry.1.resource resource)
                (matches_names entry.1.pattern (names_by kind_is name_is))
                ((resource_decides entry.1.resource resource).1 entry_kind) taken.1,
          )

      -- and what is on those that its pattern takes first
      narrow : is_on first entry ≡ false → (other : ℕ × Binding) → is_on (target_of entry) other ≡ true
          → is_on one other ≡ true
      narrow apart other is =
          let parts = and_parts (same_resource other.1.resource resource)
          (matches_names other.1.pattern (names_by kind_is name_is))
          (ap (λ (t : Target). is_on t other) (sym own_is) ∙ is) in
          and_from (same_resource other.1.resource one.resource) (matches_names other.1.pattern one.names)
          (ap (same_resource other.1.resource) of_kind ∙ parts.0)
          (first_least kind_is other.1.pattern.kind name_is other.1.pattern.name one.names on_names
          (λ literal.
          sym (ap (λ k. matches_below k name_is prefix) literal) ∙ apart_is apart)
          parts.1)

-- Each kind of resource.

module _ (rules : Contents) where
  abbrev pub OwnFirst : ResourceKind → List ℕ → Target → ℕ × Binding → Type 0
  OwnFirst resource prefix one entry =
      Contains (targets_below rules.entries resource prefix) one → is_on one entry ≡ true
      → (is_below resource prefix (first_of (at_prefix resource prefix) entry) ≡ true)
      × ((is_on (first_of (at_prefix resource prefix) entry) entry ≡ true)
      × ((other : ℕ × Binding) → is_on (first_of (at_prefix resource prefix) entry) other ≡ true
      → is_on one other ≡ true))

  many_names : (resource : ResourceKind) (prefix : List ℕ)
      → ((pattern : Pattern) → target_by resource pattern ≡ target resource (names_by pattern.kind pattern.name))
      → (one : Target) (entry : ℕ × Binding) → OwnFirst resource prefix one entry
  many_names resource prefix plain one entry there on =
      elim (cases_Bool (is_on (at_prefix resource prefix) entry)) [
        | inl at ↦
            rw at (
              begins_first rules resource prefix plain one there,
              (at, wide rules resource prefix plain one there),
            )
        | inr apart ↦
            let own = own_below rules resource prefix plain one there entry on apart in
            rw apart (own.0, (own.1, narrow rules resource prefix plain one there entry on apart))
      ]

  one_name : (prefix : List ℕ) (one : Target) (entry : ℕ × Binding) → OwnFirst Cluster prefix one entry
  one_name prefix one entry there on =
      let is : one ≡ the_cluster = alone rules Cluster prefix one there refl in
      let at : is_on the_cluster entry ≡ true = subst (λ (t : Target). is_on t entry ≡ true) is on in
      rw at (
        subst (λ (t : Target). is_below Cluster prefix t ≡ true) is (of_below rules Cluster prefix one there).1,
        (at, λ other there'. subst (λ (t : Target). is_on t other ≡ true) (sym is) there'),
      )

  pub own_first : (resource : ResourceKind) (prefix : List ℕ) (one : Target) (entry : ℕ × Binding)
      → OwnFirst resource prefix one entry
  own_first Topic prefix = many_names Topic prefix (λ _. refl)
  own_first Group prefix = many_names Group prefix (λ _. refl)
  own_first Cluster prefix = one_name prefix
  own_first TransactionalId prefix = many_names TransactionalId prefix (λ _. refl)

  pub all_wide : (resource : ResourceKind) (prefix : List ℕ) (one : Target) (entry : ℕ × Binding)
      → Contains (targets_below rules.entries resource prefix) one → is_on (at_prefix resource prefix) entry ≡ true
      → is_on one entry ≡ true
  all_wide Cluster prefix one entry there at =
      subst (λ (t : Target). is_on t entry ≡ true) (sym (alone rules Cluster prefix one there refl)) at
  all_wide Topic prefix one entry there at = wide rules Topic prefix (λ _. refl) one there entry at
  all_wide Group prefix one entry there at = wide rules Group prefix (λ _. refl) one there entry at
  all_wide TransactionalId prefix one entry there at =
      wide rules TransactionalId prefix (λ _. refl) one there entry at
