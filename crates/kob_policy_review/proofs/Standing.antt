-- The class in which a question stands, and the bindings that bear on both.
use Rattle.std.proofs.Common.{Bool, Contains, List, Option, Some, None, true, false, nat_lt, nat_eq, not, cond, codes, length, map, sym, subst, ap, refl, arith, inl, inr, if◌then◌else◌, [], ◌∷◌, ◌++◌, ◌&&◌, ◌||◌, ◌≡◌, ◌≤◌, ◌⊎◌, ◌∙◌, ℕ}
use Rattle.std.proofs.lemmas.Bool.{and_from, and_parts, both_ways, cases_Bool, not-true}
use Rattle.std.proofs.lemmas.Bool.Decides.{nat_tests}
use Rattle.std.proofs.lemmas.List.Elements.{Contains-append_cases, Contains-append_left, Contains-append_right}
use Rattle.std.proofs.lemmas.Slice.Eq.{bytes_eq-Decides}
use Rattle.std.specs.List.{filter, fold, list_any, starts_with}
use Rattle.kob_names.proofs.SameBindings.{kind_decides, resource_decides}
use Rattle.kob_names.specs.Binding.{Binding, matches, matches_by}
use Rattle.kob_names.specs.declared.kinds.PatternKind.{PatternKind}
use Rattle.kob_names.specs.declared.pattern.Pattern.{Pattern}
use Rattle.kob_names.specs.Same.{same_pattern_kind, same_resource, same_text}
use Rattle.kob_names.specs.declared.kinds.PatternKind.TheVariants.{Literal, Prefixed}
use Rattle.kob_names.specs.declared.kinds.ResourceKind.{ResourceKind}
use Rattle.kob_names.specs.declared.kinds.ResourceKind.TheVariants.{Topic, Group, Cluster, TransactionalId}
use Rattle.kob_authorizer.proofs.Entries.{among_mapped, any_passes, given_by, passing, at_head}
use Rattle.kob_policy_review.proofs.Texts.{same_when, starts_below}
use Rattle.kob_policy_review.specs.Alike.{hosts_of, principals_of}
use Rattle.kob_policy_review.specs.Classes.{covers_party, hosts_named, is_on, is_party, matches_below, matches_names, names_by, open_targets, others_on, parties, principals_named, same_names, same_target, target, target_by, target_of, targets, the_cluster, with_host, with_party, with_principal, with_target_of}
use Rattle.kob_policy_review.specs.declared.class.Names.{Names}
use Rattle.kob_policy_review.specs.declared.class.Names.TheVariants.{Exactly, Below}
use Rattle.kob_policy_review.specs.declared.class.Target.{Target}

module _ {A : Type 0} where
  -- tests that agree on the elements of a list find alike
  pub any_alike : (f g : A → Bool) (xs : List A) → ((x : A) → Contains xs x → f x ≡ g x)
      → list_any f xs ≡ list_any g xs
  any_alike f g xs agree = same_when _ _
      (λ found. let (x, (there, passes)) = passing f xs found in
      any_passes g xs x there (sym (agree x there) ∙ passes))
      (λ found. let (x, (there, passes)) = passing g xs found in any_passes f xs x there (agree x there ∙ passes))

  -- where none is found, none passes
  pub none_passes : (test : A → Bool) (xs : List A) (x : A) → list_any test xs ≡ false → Contains xs x
      → test x ≡ false
  none_passes test xs x none there = same_when _ _
      (λ passes. absurd (both_ways _ none (any_passes test xs x there passes)))
      (λ h. absurd cc)

  pub first_or_rest : (x : A) (xs : List A) (y : A) → Contains (x ∷ xs) y → (x ≡ y) ⊎ Contains xs y
  first_or_rest x xs y has = grind (arith, nat_tests)

  -- what is found among what a filter keeps
  pub any_kept : (p f : A → Bool) (xs : List A) → list_any f (filter p xs) ≡ list_any (λ x. p x && f x) xs
  any_kept p f [] = refl
  any_kept p f (x ∷ xs) =
      elim (p x) as (λ b. list_any f (cond b (x ∷ filter p xs) (filter p xs))
      ≡ ((b && f x) || list_any (λ y. p y && f y) xs)) [
        | true ↦ ap (λ b. f x || b) (any_kept p f xs)
        | false ↦ any_kept p f xs
      ]

-- The party that stands for a text.

abbrev pub party_for : List (List ℕ) → List ℕ → Option (List ℕ)
party_for texts text = if list_any (same_text text) texts then Some text else None

-- what is named covers a text exactly where it covers the party that stands for it
pub covers_same : (all bound text : List ℕ) (texts : List (List ℕ)) → Contains texts bound
    → covers_party all bound (party_for texts text) ≡ (same_text bound text || same_text bound all)
covers_same all bound text texts there =
    elim (cases_Bool (list_any (same_text text) texts)) [
      | inl named ↦ rw named refl
      | inr unnamed ↦
          let other : same_text bound text ≡ false = same_when _ _
          (λ same. absurd (both_ways _ unnamed (any_passes (same_text text) texts bound there
          ((bytes_eq-Decides text bound).1 (sym ((bytes_eq-Decides bound text).0 same))))))
          (λ h. absurd cc) in
          rw (unnamed, other) refl
    ]

-- parties once put there stay
party_kept : (made : List (Option (List ℕ))) (texts : List (List ℕ)) (party : Option (List ℕ))
    → Contains made party → Contains (fold with_party made texts) party
party_kept made [] party there = there
party_kept made (text ∷ texts) party there =
    party_kept (with_party made text) texts party
    (elim (list_any (is_party text) made) as (λ b. Contains (cond b made (made ++ Some text ∷ [])) party) [
      | true ↦ there
      | false ↦ Contains-append_left made (Some text ∷ []) party there
    ])

is_itself : (text : List ℕ) (party : Option (List ℕ)) → is_party text party ≡ true → party ≡ Some text
is_itself text (Some other) same = ap Some (sym ((bytes_eq-Decides text other).0 same))
is_itself text None same = absurd cc

party_put : (made : List (Option (List ℕ))) (text : List ℕ) → Contains (with_party made text) (Some text)
party_put made text =
    elim (cases_Bool (list_any (is_party text) made)) [
      | inl known ↦
          let (party, (there, is)) = passing (is_party text) made known in
          rw known (subst (Contains made) (is_itself text party is) there)
      | inr new ↦ rw new (Contains-append_right made (Some text ∷ []) (Some text) (at_head (Some text) []))
    ]

party_made : (made : List (Option (List ℕ))) (texts : List (List ℕ)) (text : List ℕ) → Contains texts text
    → Contains (fold with_party made texts) (Some text)
party_made made [] text there = absurd (omega (arith, there.1))
party_made made (first ∷ texts) text there =
    elim (first_or_rest first texts text there) [
      | inl same ↦ party_kept (with_party made first) texts (Some text)
          (subst (λ t. Contains (with_party made first) (Some t)) same (party_put made first))
      | inr later ↦ party_made (with_party made first) texts text later
    ]

-- the party that stands for a text is among those of the texts
pub party_there : (texts : List (List ℕ)) (text : List ℕ) → Contains (parties texts) (party_for texts text)
party_there texts text =
    elim (cases_Bool (list_any (same_text text) texts)) [
      | inl named ↦
          let (other, (there, same)) = passing (same_text text) texts named in
          rw named (party_made (None ∷ []) texts text
          (subst (Contains texts) (sym ((bytes_eq-Decides text other).0 same)) there))
      | inr unnamed ↦ rw unnamed (party_kept (None ∷ []) texts None (at_head None []))
    ]

-- The target in which a name stands.

abbrev pub is_prefix_of : ResourceKind → List ℕ → ℕ × Binding → Bool
is_prefix_of kind name entry =
    same_resource entry.1.resource kind
    && (same_pattern_kind entry.1.pattern.kind Prefixed && starts_with nat_eq name entry.1.pattern.name)

abbrev pub is_literal_of : ResourceKind → List ℕ → ℕ × Binding → Bool
is_literal_of kind name entry =
    same_resource entry.1.resource kind
    && (same_pattern_kind entry.1.pattern.kind Literal
    && (same_text entry.1.pattern.name name && not (same_text entry.1.pattern.name (codes "*"))))

-- the longest prefix among the entries with which the name begins
pub longest : ResourceKind → List ℕ → List (ℕ × Binding) → List ℕ
longest kind name [] = []
longest kind name (entry ∷ rest) =
    cond (is_prefix_of kind name entry && nat_lt (length (longest kind name rest)) (length entry.1.pattern.name))
    entry.1.pattern.name (longest kind name rest)

pub longest_takes : (kind : ResourceKind) (name : List ℕ) (entries : List (ℕ × Binding))
    → starts_with nat_eq name (longest kind name entries) ≡ true
unfolding longest
longest_takes kind name [] = refl
longest_takes kind name (entry ∷ rest) =
    elim (cases_Bool (is_prefix_of kind name entry
    && nat_lt (length (longest kind name rest)) (length entry.1.pattern.name))) [
      | inl more ↦ rw more (and_parts _ _ ((and_parts _ _ ((and_parts _ _ more).0)).1)).1
      | inr same ↦ rw same (longest_takes kind name rest)
    ]

pub longest_most : (kind : ResourceKind) (name : List ℕ) (entries : List (ℕ × Binding)) (entry : ℕ × Binding)
    → Contains entries entry → is_prefix_of kind name entry ≡ true
    → length entry.1.pattern.name ≤ length (longest kind name entries)
unfolding longest
longest_most kind name [] entry there is = absurd (omega (arith, there.1))
longest_most kind name (first ∷ rest) entry there is =
    grind (arith, nat_tests, first_or_rest first rest entry there, longest_most kind name rest entry)

longest_from : (kind : ResourceKind) (name : List ℕ) (entries : List (ℕ × Binding))
    → (longest kind name entries ≡ []) ⊎ ((entry : ℕ × Binding) × (Contains entries entry
    × ((entry.1.resource ≡ kind) × ((entry.1.pattern.kind ≡ Prefixed)
    × (entry.1.pattern.name ≡ longest kind name entries)))))
unfolding longest
longest_from kind name [] = inl refl
longest_from kind name (entry ∷ rest) =
    elim (cases_Bool (is_prefix_of kind name entry
    && nat_lt (length (longest kind name rest)) (length entry.1.pattern.name))) [
      | inl more ↦
          let is = (and_parts _ _ more).0 in
          let parts = and_parts _ _ is in
          inr (
            entry,
            (
              at_head entry rest,
              (
                (resource_decides entry.1.resource kind).0 parts.0,
                ((kind_decides entry.1.pattern.kind Prefixed).0 (and_parts _ _ parts.1).0, rw more refl),
              ),
            ),
          )
      | inr same ↦
          elim (longest_from kind name rest) [
            | inl none ↦ inl (rw same none)
            | inr some ↦ inr (
              some.0,
              (
                Contains-append_right (entry ∷ []) rest some.0 some.1.0,
                (some.1.1.0, (some.1.1.1.0, rw same some.1.1.1.1)),
              ),
            )
          ]
    ]

abbrev pub names_for : List (ℕ × Binding) → ResourceKind → List ℕ → Names
names_for entries kind name =
    if list_any (is_literal_of kind name) entries then Exactly name else Below (longest kind name entries)

abbrev pub target_for : List (ℕ × Binding) → ResourceKind → List ℕ → Target
target_for entries Cluster name = the_cluster
target_for entries Topic name = target Topic (names_for entries Topic name)
target_for entries Group name = target Group (names_for entries Group name)
target_for entries TransactionalId name = target TransactionalId (names_for entries TransactionalId name)

below_is : (kind : PatternKind) (bound name long : List ℕ)
    → (kind ≡ Literal → same_text bound name ≡ true → same_text bound (codes "*") ≡ true)
    → (kind ≡ Prefixed → starts_with nat_eq name bound ≡ starts_with nat_eq long bound)
    → matches_below kind bound long ≡ matches_by kind bound name
below_is Literal bound name long star same =
    elim (cases_Bool (same_text bound name)) [
      | inl is ↦ rw (is, star refl is) refl
      | inr other ↦ rw other refl
    ]
below_is Prefixed bound name long star same = sym (same refl)

module _ (entries : List (ℕ × Binding)) (kind : ResourceKind) (name : List ℕ) (entry : ℕ × Binding)
    (there : Contains entries entry) where
  -- a pattern matches the names that stand for a name exactly where it matches the name
  on_names : entry.1.resource ≡ kind
      → matches_names entry.1.pattern (names_for entries kind name) ≡ matches entry.1.pattern name
  on_names of_kind =
      elim (cases_Bool (list_any (is_literal_of kind name) entries)) [
        | inl named ↦ rw named refl
        | inr unnamed ↦
            let other = none_passes (is_literal_of kind name) entries entry unnamed there in
            rw unnamed (below_is entry.1.pattern.kind entry.1.pattern.name name (longest kind name entries)
            (λ literal same.
            elim (cases_Bool (same_text entry.1.pattern.name (codes "*"))) [
              | inl star ↦ star
              | inr plain ↦
                  absurd (both_ways _ other
                  (and_from _ _ ((resource_decides entry.1.resource kind).1 of_kind)
                  (and_from _ _ ((kind_decides entry.1.pattern.kind Literal).1 literal)
                  (and_from _ _ same (ap not plain)))))
            ])
            (λ prefixed.
            starts_below name (longest kind name entries) entry.1.pattern.name (longest_takes kind name entries)
            (λ starts.
            longest_most kind name entries entry there
            (and_from _ _ ((resource_decides entry.1.resource kind).1 of_kind)
            (and_from _ _ ((kind_decides entry.1.pattern.kind Prefixed).1 prefixed) starts)))))
      ]

pub and_same : (a b c : Bool) → (a ≡ true → b ≡ c) → (a && b) ≡ (a && c)
and_same true b c same = same refl
and_same false b c same = refl

-- a binding is on the target that stands for a name exactly where it matches the name
pub on_for : (entries : List (ℕ × Binding)) (kind : ResourceKind) (name : List ℕ)
    → (kind ≡ Cluster → name ≡ codes "kafka-cluster") → (entry : ℕ × Binding) → Contains entries entry
    → is_on (target_for entries kind name) entry
    ≡ (same_resource entry.1.resource kind && matches entry.1.pattern name)
on_for entries Topic name only entry there =
    and_same _ _ _ (λ is. on_names entries Topic name entry there ((resource_decides entry.1.resource Topic).0 is))
on_for entries Group name only entry there =
    and_same _ _ _ (λ is. on_names entries Group name entry there ((resource_decides entry.1.resource Group).0 is))
on_for entries TransactionalId name only entry there =
    and_same _ _ _ (λ is. on_names entries TransactionalId name entry there
    ((resource_decides entry.1.resource TransactionalId).0 is))
on_for entries Cluster name only entry there =
    ap (λ (n : List ℕ). same_resource entry.1.resource Cluster && matches entry.1.pattern n) (sym (only refl))

module _ (entries : List (ℕ × Binding)) (kind : ResourceKind) (name : List ℕ)
    (plain : (pattern : Pattern) → target_by kind pattern ≡ target kind (names_by pattern.kind pattern.name))
    (open_one : Contains open_targets (others_on kind)) where
  of_entry : (entry : ℕ × Binding) (names : Names) → Contains entries entry → entry.1.resource ≡ kind
      → names_by entry.1.pattern.kind entry.1.pattern.name ≡ names → Contains (targets entries) (target kind names)
  of_entry entry names there of_kind is =
      let made : target_of entry ≡ target kind names =
      ap (λ (k : ResourceKind). target_by k entry.1.pattern) of_kind ∙ plain entry.1.pattern ∙ ap (target kind) is in
      subst (Contains (targets entries)) made
      (Contains-append_right open_targets (map target_of entries) (target_of entry)
      (among_mapped target_of entries entry there))

  names_there : Contains (targets entries) (target kind (names_for entries kind name))
  names_there =
      elim (cases_Bool (list_any (is_literal_of kind name) entries)) [
        | inl named ↦
            let (entry, (there, is)) = passing (is_literal_of kind name) entries named in
            let parts = and_parts _ _ is in
            let more = and_parts _ _ parts.1 in
            let last = and_parts _ _ more.1 in
            let same = (bytes_eq-Decides entry.1.pattern.name name).0 last.0 in
            let literal = (kind_decides entry.1.pattern.kind Literal).0 more.0 in
            rw named (of_entry entry (Exactly name) there ((resource_decides entry.1.resource kind).0 parts.0)
            (ap (λ (k : PatternKind). names_by k entry.1.pattern.name) literal
            ∙ rw (not-true _ last.1) (ap Exactly same)))
        | inr unnamed ↦
            elim (longest_from kind name entries) [
              | inl none ↦ rw (unnamed, none)
                  (Contains-append_left open_targets (map target_of entries) (others_on kind) open_one)
              | inr some ↦
                  rw unnamed (of_entry some.0 (Below (longest kind name entries)) some.1.0 some.1.1.0
                  (ap (λ (k : PatternKind). names_by k some.0.1.pattern.name) some.1.1.1.0 ∙ ap Below some.1.1.1.1))
            ]
      ]

-- the target that stands for a name is among those of the entries
pub target_there : (entries : List (ℕ × Binding)) (kind : ResourceKind) (name : List ℕ)
    → Contains (targets entries) (target_for entries kind name)
target_there entries Topic name = names_there entries Topic name (λ _. refl) (0, omega arith, refl)
target_there entries Group name = names_there entries Group name (λ _. refl) (1, omega arith, refl)
target_there entries Cluster name =
    Contains-append_left open_targets (map target_of entries) the_cluster (2, omega arith, refl)
target_there entries TransactionalId name =
    names_there entries TransactionalId name (λ _. refl) (3, omega arith, refl)

-- the parties of a fold over entries are those of their texts
fold_named : (text_of : ℕ × Binding → List ℕ) (made : List (Option (List ℕ))) (entries : List (ℕ × Binding))
    → fold (λ m (entry : ℕ × Binding). with_party m (text_of entry)) made entries
    ≡ fold with_party made (map text_of entries)
fold_named text_of made [] = refl
fold_named text_of made (entry ∷ rest) = fold_named text_of (with_party made (text_of entry)) rest

pub principals_are : (entries : List (ℕ × Binding)) → principals_named entries ≡ parties (principals_of entries)
unfolding with_principal
principals_are entries = fold_named (λ (entry : ℕ × Binding). entry.1.principal) (None ∷ []) entries

pub hosts_are : (entries : List (ℕ × Binding)) → hosts_named entries ≡ parties (hosts_of entries)
unfolding with_host
hosts_are entries = fold_named (λ (entry : ℕ × Binding). entry.1.host) (None ∷ []) entries

-- all others are among the principals, and so is that of each entry
pub others_there : (entries : List (ℕ × Binding)) → Contains (principals_named entries) None
others_there entries =
    subst (λ ps. Contains ps None) (sym (principals_are entries))
    (party_kept (None ∷ []) (principals_of entries) None (at_head None []))

pub named_there : (entries : List (ℕ × Binding)) (entry : ℕ × Binding) → Contains entries entry
    → Contains (principals_named entries) (Some entry.1.principal)
named_there entries entry there =
    subst (λ ps. Contains ps (Some entry.1.principal)) (sym (principals_are entries))
    (party_made (None ∷ []) (principals_of entries) entry.1.principal
    (among_mapped (λ (e : ℕ × Binding). e.1.principal) entries entry there))

-- Each target once.

names_equal : (one other : Names) → same_names one other ≡ true → one ≡ other
names_equal (Exactly one) (Exactly other) same = ap Exactly ((bytes_eq-Decides one other).0 same)
names_equal (Below one) (Below other) same = ap Below ((bytes_eq-Decides one other).0 same)
names_equal (Exactly one) (Below other) same = absurd cc
names_equal (Below one) (Exactly other) same = absurd cc

pub target_equal : (one other : Target) → same_target one other ≡ true → one ≡ other
target_equal one other same =
    let parts = and_parts _ _ same in
    let kinds = (resource_decides one.resource other.resource).0 parts.0 in
    let names = names_equal one.names other.names parts.1 in
    let whole : target one.resource one.names ≡ target other.resource other.names = cc in whole

module _ (made : List Target) (entry : ℕ × Binding) where
  known_kept : (t : Target) → Contains made t → Contains (with_target_of made entry) t
  unfolding with_target_of
  known_kept t there =
      elim (list_any (same_target (target_of entry)) made) as (λ b.
      Contains (cond b made (made ++ target_of entry ∷ [])) t) [
        | true ↦ there
        | false ↦ Contains-append_left made (target_of entry ∷ []) t there
      ]

  put : Contains (with_target_of made entry) (target_of entry)
  unfolding with_target_of
  put =
      elim (cases_Bool (list_any (same_target (target_of entry)) made)) [
        | inl known ↦
            let (t, (there, same)) = passing (same_target (target_of entry)) made known in
            rw known (subst (Contains made) (sym (target_equal (target_of entry) t same)) there)
        | inr new ↦
            rw new (Contains-append_right made (target_of entry ∷ []) (target_of entry)
            (at_head (target_of entry) []))
      ]

  only_put : (t : Target) → Contains (with_target_of made entry) t → Contains made t ⊎ (target_of entry ≡ t)
  unfolding with_target_of
  only_put t there =
      elim (cases_Bool (list_any (same_target (target_of entry)) made)) [
        | inl known ↦ inl (rw known at there)
        | inr new ↦
            elim (Contains-append_cases made (target_of entry ∷ []) t (rw new at there)) [
              | inl before ↦ inl before
              | inr last ↦
                  elim (first_or_rest (target_of entry) [] t last) [
                    | inl is ↦ inr is
                    | inr no_more ↦ absurd (omega (arith, no_more.1))
                  ]
            ]
      ]

all_kept : (made : List Target) (entries : List (ℕ × Binding)) (t : Target) → Contains made t
    → Contains (fold with_target_of made entries) t
all_kept made [] t there = there
all_kept made (entry ∷ rest) t there = all_kept (with_target_of made entry) rest t (known_kept made entry t there)

all_put : (made : List Target) (entries : List (ℕ × Binding)) (entry : ℕ × Binding) → Contains entries entry
    → Contains (fold with_target_of made entries) (target_of entry)
all_put made [] entry there = absurd (omega (arith, there.1))
all_put made (first ∷ rest) entry there =
    elim (first_or_rest first rest entry there) [
      | inl same ↦
          subst (λ (e : ℕ × Binding). Contains (fold with_target_of (with_target_of made first) rest) (target_of e))
          same
          (all_kept (with_target_of made first) rest (target_of first) (put made first))
      | inr later ↦ all_put (with_target_of made first) rest entry later
    ]

-- each target of the entries is named
pub all_named : (made : List Target) (entries : List (ℕ × Binding)) (t : Target)
    → Contains (made ++ map target_of entries) t → Contains (fold with_target_of made entries) t
all_named made entries t there =
    elim (Contains-append_cases made (map target_of entries) t there) [
      | inl before ↦ all_kept made entries t before
      | inr named ↦
          let (entry, (in_list, is)) = given_by target_of entries t named in
          subst (Contains (fold with_target_of made entries)) is (all_put made entries entry in_list)
    ]

-- and no other
pub only_named : (made : List Target) (entries : List (ℕ × Binding)) (t : Target)
    → Contains (fold with_target_of made entries) t → Contains (made ++ map target_of entries) t
only_named made [] t there = Contains-append_left made [] t there
only_named made (entry ∷ rest) t there =
    elim (Contains-append_cases (with_target_of made entry) (map target_of rest) t
    (only_named (with_target_of made entry) rest t there)) [
      | inl before ↦
          elim (only_put made entry t before) [
            | inl earlier ↦ Contains-append_left made (map target_of (entry ∷ rest)) t earlier
            | inr is ↦
                Contains-append_right made (map target_of (entry ∷ rest)) t
                (subst (Contains (map target_of (entry ∷ rest))) is (at_head (target_of entry) (map target_of rest)))
          ]
      | inr later ↦
          Contains-append_right made (map target_of (entry ∷ rest)) t
          (Contains-append_right (target_of entry ∷ []) (map target_of rest) t later)
    ]
