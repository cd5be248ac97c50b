-- What is listed of the names below a prefix is what the rules decide on each of them.
use Rattle.std.proofs.Common.{Bool, Contains, List, Option, Some, None, true, false, nat_eq, not, append_assoc, codes, drop, fold, length, map, sym, subst, ap, refl, arith, inl, inr, [], ◌∷◌, ◌++◌, ◌&&◌, ◌≡◌, ◌≤◌, ◌∙◌, ℕ}
use Rattle.std.proofs.Math.Bool.{and-false}
use Rattle.std.proofs.lemmas.Bool.{and_from, and_parts, both_ways, cases_Bool}
use Rattle.std.proofs.lemmas.List.Elements.{Contains-append_right}
use Rattle.std.specs.List.{filter, flat_map, list_all, list_any, starts_with}
use Rattle.kob_names.proofs.SameBindings.{resource_decides}
use Rattle.kob_names.specs.Binding.{Binding, matches, reaches}
use Rattle.kob_names.specs.Same.{same_permission, same_resource}
use Rattle.kob_names.specs.declared.kinds.Operation.{Operation}
use Rattle.kob_names.specs.declared.kinds.Operation.TheVariants.{Read}
use Rattle.kob_names.specs.declared.kinds.PatternKind.TheVariants.{Prefixed}
use Rattle.kob_names.specs.declared.kinds.Permission.{Permission}
use Rattle.kob_names.specs.declared.kinds.Permission.TheVariants.{Allow, Deny}
use Rattle.kob_names.specs.declared.kinds.ResourceKind.{ResourceKind}
use Rattle.kob_names.specs.declared.kinds.ResourceKind.TheVariants.{Topic, Group, Cluster, TransactionalId}
use Rattle.kob_authorizer.proofs.Entries.{among_mapped, any_passes, at_head, given_by, kept_by_filter, passing, was_kept}
use Rattle.kob_authorizer.specs.Decide.{Contents, Question, is_hit, is_match, is_super, question_of}
use Rattle.kob_policy_review.proofs.Changing.{from_flat, in_flat}
use Rattle.kob_policy_review.proofs.Deciding.{granted, granted_same, yes_is}
use Rattle.kob_policy_review.proofs.Marks.{cluster_alone, in_sum, stands_marked}
use Rattle.kob_policy_review.proofs.Needing.{plain_party}
use Rattle.kob_policy_review.proofs.Standing.{all_named, any_alike, any_kept, covers_same, first_or_rest, hosts_are, is_literal_of, longest, longest_most, longest_takes, names_for, on_for, only_named, party_for, party_there, principals_are, target_for, target_there}
use Rattle.kob_policy_review.proofs.Texts.{begins, begins_so, starts_below}
use Rattle.kob_policy_review.specs.Alike.{hosts_of, is_yes, principals_of, spare, weight}
use Rattle.kob_policy_review.specs.Below.{BeginsWith, IsAsker, IsGrantedOnAll, IsGrantedOnSome, ListsReaches, Means, at_prefix, is_below, is_met_on, is_on_one, near_below, place_on, reach_from, reaches_below, reaches_by, share_of, targets_below, yes_at}
use Rattle.kob_policy_review.specs.Classes.{covers_party, hosts_named, is_for, is_on, names_text, open_targets, principals_named, targets, with_target, with_target_of}
use Rattle.kob_policy_review.specs.Difference.{class_of}
use Rattle.kob_policy_review.specs.Finding.{text_of}
use Rattle.kob_policy_review.specs.Needed.{is_super_party}
use Rattle.kob_policy_review.specs.declared.named_below.Place.{Place}
use Rattle.kob_policy_review.specs.declared.below.Reach.{Reach}
use Rattle.kob_policy_review.specs.declared.below.Share.{Share}
use Rattle.kob_policy_review.specs.declared.class.Names.{Names}
use Rattle.kob_policy_review.specs.declared.class.Names.TheVariants.{Exactly, Below}
use Rattle.kob_policy_review.specs.declared.class.Target.{Target}

-- Every element passes.

module _ {A : Type 0} (test : A → Bool) where
  pub each_passes : (xs : List A) (x : A) → list_all test xs ≡ true → Contains xs x → test x ≡ true
  each_passes [] x all there = absurd (omega (arith, there.1))
  each_passes (first ∷ rest) x all there =
      let parts = and_parts (test first) (list_all test rest) all in
      elim (first_or_rest first rest x there) [
        | inl is ↦ subst (λ y. test y ≡ true) is parts.0
        | inr later ↦ each_passes rest x parts.1 later
      ]

  pub all_pass : (xs : List A) → ((x : A) → Contains xs x → test x ≡ true) → list_all test xs ≡ true
  all_pass [] each = refl
  all_pass (first ∷ rest) each =
      and_from _ _ (each first (at_head first rest))
      (all_pass rest (λ x there. each x (Contains-append_right (first ∷ []) rest x there)))

hit_bools : (permission resource name who where_from reach on near for_who at : Bool) → on ≡ (resource && name)
    → (on ≡ true → near ≡ true) → (near ≡ true → for_who ≡ who) → (near ≡ true → for_who ≡ true → at ≡ where_from)
    → (permission && (resource && (name && ((who && where_from) && reach))))
    ≡ (near && (for_who && (on && (permission && (at && reach)))))
hit_bools permission false name who where_from reach on near for_who at is among asks hosts =
    and-false permission
    ∙ sym (ap (λ b. near && (for_who && (b && (permission && (at && reach))))) is
    ∙ ap (λ b. near && b) (and-false for_who) ∙ and-false near)
hit_bools permission true false who where_from reach on near for_who at is among asks hosts =
    and-false permission
    ∙ sym (ap (λ b. near && (for_who && (b && (permission && (at && reach))))) is
    ∙ ap (λ b. near && b) (and-false for_who) ∙ and-false near)
hit_bools permission true true false where_from reach on near for_who at is among asks hosts =
    and-false permission
    ∙ sym (ap (λ b. near && (b && (on && (permission && (at && reach))))) (asks (among is)) ∙ and-false near)
hit_bools permission true true true where_from reach on near for_who at is among asks hosts =
    let here = among is in
    let whom = asks here in
    ap (λ b. permission && (b && reach)) (sym (hosts here whom))
    ∙ sym (ap (λ b. near && (for_who && (b && (permission && (at && reach))))) is
    ∙ ap (λ b. near && (b && (permission && (at && reach)))) whom ∙ ap (λ b. b && (permission && (at && reach))) here)

-- A prefix as an entry more: the names that begin with it are told apart.

abbrev pub as_entry : ResourceKind → List ℕ → ℕ × Binding
as_entry resource prefix = (
  0,
  record {
    permission = Allow;
    principal = [];
    host = [];
    operation = Read;
    resource = resource;
    pattern = record { kind = Prefixed; name = prefix };
  },
)

pub with_prefix : (resource : ResourceKind) (prefix : List ℕ) (entries : List (ℕ × Binding))
    → fold with_target_of open_targets (as_entry resource prefix ∷ entries)
    ≡ fold with_target_of (with_target open_targets (at_prefix resource prefix)) entries
unfolding with_target_of
with_prefix resource prefix entries = refl

module _ (rules : Contents) (resource : ResourceKind) (prefix : List ℕ) where
  abbrev pub more : List (ℕ × Binding)
  more = as_entry resource prefix ∷ rules.entries

  abbrev pub below : List Target
  below = targets_below rules.entries resource prefix

  abbrev near : List (ℕ × Binding)
  near = near_below rules resource prefix

  names_begin : (name : List ℕ) → starts_with nat_eq name prefix ≡ true
      → starts_with nat_eq (text_of (names_for more resource name)) prefix ≡ true
  names_begin name starts =
      elim (cases_Bool (list_any (is_literal_of resource name) more)) [
        | inl literal ↦ rw literal starts
        | inr plain ↦
            let longer : length prefix ≤ length (longest resource name more) =
            longest_most resource name more (as_entry resource prefix)
            (at_head (as_entry resource prefix) rules.entries)
            (and_from (same_resource resource resource) (starts_with nat_eq name prefix)
            ((resource_decides resource resource).1 refl) starts) in
            rw plain (sym (starts_below name (longest resource name more) prefix (longest_takes resource name more)
            (λ _. longer)) ∙ starts)
      ]

  pub target_below : (target : Target) → Contains (targets more) target → target.resource ≡ resource
      → starts_with nat_eq (text_of target.names) prefix ≡ true → Contains below target
  target_below target named of_kind starts =
      kept_by_filter (is_below resource prefix)
      (fold with_target_of (with_target open_targets (at_prefix resource prefix)) rules.entries) target
      (subst (λ (ts : List Target). Contains ts target) (with_prefix resource prefix rules.entries)
      (all_named open_targets more target named))
      (and_from (same_resource target.resource resource) (starts_with nat_eq (text_of target.names) prefix)
      ((resource_decides target.resource resource).1 of_kind) starts)

  -- the target that stands for a name below the prefix
  kind_is : (kind : ResourceKind) (name : List ℕ) → (target_for more kind name).resource ≡ kind
  kind_is Topic name = refl
  kind_is Group name = refl
  kind_is Cluster name = refl
  kind_is TransactionalId name = refl

  text_starts : (kind : ResourceKind) (name : List ℕ) → (kind ≡ Cluster → name ≡ codes "kafka-cluster")
      → starts_with nat_eq name prefix ≡ true
      → starts_with nat_eq (text_of (names_for more kind name)) prefix ≡ true
      → starts_with nat_eq (text_of (target_for more kind name).names) prefix ≡ true
  text_starts Topic name only starts names = names
  text_starts Group name only starts names = names
  text_starts TransactionalId name only starts names = names
  text_starts Cluster name only starts names = ap (λ n. starts_with nat_eq n prefix) (sym (only refl)) ∙ starts

  stands_below : (name : List ℕ) → BeginsWith resource prefix name → Contains below (target_for more resource name)
  stands_below name is =
      target_below (target_for more resource name) (target_there more resource name) (kind_is resource name)
      (text_starts resource name is.only is.begins (names_begin name is.begins))

  -- a name of a target below the prefix
  abbrev name_on : Target → List ℕ
  name_on target = names_text (spare rules) target.names

  name_starts : (mark : ℕ) (names : Names) → starts_with nat_eq (text_of names) prefix ≡ true
      → starts_with nat_eq (names_text mark names) prefix ≡ true
  name_starts mark (Exactly name) starts = starts
  name_starts mark (Below start) starts =
      begins_so (start ++ mark ∷ []) prefix (drop (length prefix) start ++ mark ∷ [])
      (ap (λ t. t ++ mark ∷ []) (begins start prefix starts)
      ∙ append_assoc prefix (drop (length prefix) start) (mark ∷ []))

  name_below : (target : Target) → Contains below target
      → (target.resource ≡ resource) × (BeginsWith resource prefix (name_on target))
  name_below target there =
      let (in_all, is) = was_kept (is_below resource prefix)
      (fold with_target_of (with_target open_targets (at_prefix resource prefix)) rules.entries) target there in
      let parts = and_parts (same_resource target.resource resource)
      (starts_with nat_eq (text_of target.names) prefix) is in
      let of_kind = (resource_decides target.resource resource).0 parts.0 in
      let named : Contains (targets more) target =
      only_named open_targets more target
      (subst (λ (ts : List Target). Contains ts target) (sym (with_prefix resource prefix rules.entries)) in_all) in (
        of_kind,
        record {
          begins = name_starts (spare rules) target.names parts.1;
          only = λ of_cluster.
              ap (λ (t : Target). names_text (spare rules) t.names)
              (cluster_alone more target named (of_kind ∙ of_cluster));
        },
      )

  near_there : (target : Target) (entry : ℕ × Binding) → Contains below target → Contains rules.entries entry
      → is_on target entry ≡ true → Contains near entry
  near_there target entry in_below in_rules on =
      kept_by_filter (is_on_one below) rules.entries entry in_rules
      (any_passes (λ t. is_on t entry) below target in_below on)

  module _ (one : Reach) (principal host : List ℕ) (operation : Operation)
      (of_class : IsAsker rules resource prefix one principal host)
      (plain : is_super rules.supers principal ≡ false) where
    abbrev asking : List (ℕ × Binding)
    asking = filter (is_for one.principal) near

    abbrev asked : List ℕ → Question
    asked name = question_of principal host operation resource name

    module _ (target : Target) (in_below : Contains below target) (name : List ℕ)
        (on : (entry : ℕ × Binding) → Contains rules.entries entry
        → is_on target entry ≡ is_match (asked name) entry) where
      hits_there : (permission : Permission) → list_any (is_hit permission (asked name)) rules.entries
          ≡ list_any (is_met_on target permission one.host operation) asking
      hits_there permission =
          any_alike (is_hit permission (asked name))
          (λ entry. is_on_one below entry
          && (is_for one.principal entry && is_met_on target permission one.host operation entry))
          rules.entries
          (λ entry there.
          hit_bools (same_permission entry.1.permission permission) (same_resource entry.1.resource resource)
          (matches entry.1.pattern name) (is_for (Some principal) entry)
          (covers_party (codes "*") entry.1.host (Some host)) (reaches permission entry.1.operation operation)
          (is_on target entry) (is_on_one below entry) (is_for one.principal entry)
          (covers_party (codes "*") entry.1.host one.host) (on entry there)
          (λ is_on_it. any_passes (λ t. is_on t entry) below target in_below is_on_it)
          (λ is_near. of_class.who entry (kept_by_filter (is_on_one below) rules.entries entry there is_near))
          (λ is_near covered. of_class.hosts entry
          (kept_by_filter (is_on_one below) rules.entries entry there is_near) covered))
          ∙ sym (any_kept (is_on_one below) (λ entry. is_for one.principal entry
          && is_met_on target permission one.host operation entry) rules.entries)
          ∙ sym (any_kept (is_for one.principal) (is_met_on target permission one.host operation) near)

      -- the answer on a name is that on its place
      decided_there : is_yes rules (asked name) ≡ yes_at asking one.host operation (place_on rules target)
      decided_there =
          yes_is rules (asked name)
          ∙ ap (λ s. granted s (list_any (is_hit Deny (asked name)) rules.entries)
          (list_any (is_hit Allow (asked name)) rules.entries)
          (rules.everyone && not (list_any (is_match (asked name)) rules.entries))) plain
          ∙ granted_same false _ _ _ _ rules.everyone _ _ (hits_there Deny) (hits_there Allow)
          (any_alike (is_match (asked name)) (is_on target) rules.entries (λ entry there. sym (on entry there)))

    on_marked : (target : Target) → target.resource ≡ resource → (entry : ℕ × Binding) → Contains rules.entries entry
        → is_on target entry ≡ is_match (asked (name_on target)) entry
    on_marked target is entry there =
        (stands_marked (spare rules) (class_of target None None operation) rules.entries
        (λ e in_rules. omega (arith, in_sum weight rules.entries e in_rules))).on entry there
        ∙ ap (λ k. same_resource entry.1.resource k && matches entry.1.pattern (name_on target)) is

    on_place : (target : Target) → Contains below target
        → is_yes rules (asked (name_on target)) ≡ yes_at asking one.host operation (place_on rules target)
    on_place target there =
        decided_there target there (name_on target) (on_marked target (name_below target there).0)

    on_name : (name : List ℕ) → BeginsWith resource prefix name
        → is_yes rules (asked name)
        ≡ yes_at asking one.host operation (place_on rules (target_for more resource name))
    on_name name is =
        decided_there (target_for more resource name) (stands_below name is) name
        (λ entry there. on_for more resource name is.only entry
        (Contains-append_right (as_entry resource prefix ∷ []) rules.entries entry there))

    abbrev places : List Place
    places = map (place_on rules) below

    abbrev on_some : Bool
    on_some = list_any (yes_at asking one.host operation) places

    abbrev on_all : Bool
    on_all = list_all (yes_at asking one.host operation) places

    some_granted : on_some ≡ true → IsGrantedOnSome rules operation resource prefix principal host
    some_granted found =
        let (place, (there, passes)) = passing (yes_at asking one.host operation) places found in
        let (target, (in_below, is)) = given_by (place_on rules) below place there in (
          name_on target,
          (
            (name_below target in_below).1,
            on_place target in_below ∙ ap (yes_at asking one.host operation) is ∙ passes,
          ),
        )

    granted_some : IsGrantedOnSome rules operation resource prefix principal host → on_some ≡ true
    granted_some (name, (is, allowed)) =
        any_passes (yes_at asking one.host operation) places (place_on rules (target_for more resource name))
        (among_mapped (place_on rules) below (target_for more resource name) (stands_below name is))
        (sym (on_name name is) ∙ allowed)

    all_granted : on_all ≡ true → IsGrantedOnAll rules operation resource prefix principal host
    all_granted all name is =
        on_name name is
        ∙ each_passes (yes_at asking one.host operation) places (place_on rules (target_for more resource name)) all
        (among_mapped (place_on rules) below (target_for more resource name) (stands_below name is))

    granted_all : IsGrantedOnAll rules operation resource prefix principal host → on_all ≡ true
    granted_all granted_on =
        all_pass (yes_at asking one.host operation) places
        (λ place there.
        let (target, (in_below, is)) = given_by (place_on rules) below place there in
        ap (yes_at asking one.host operation) (sym is) ∙ sym (on_place target in_below)
        ∙ granted_on (name_on target) (name_below target in_below).1)

    means : one.share ≡ share_of on_some on_all
        → Means one.share (IsGrantedOnSome rules operation resource prefix principal host)
        (IsGrantedOnAll rules operation resource prefix principal host)
    means is =
        subst (λ (s : Share). Means s (IsGrantedOnSome rules operation resource prefix principal host)
        (IsGrantedOnAll rules operation resource prefix principal host)) (sym is)
        (elim (cases_Bool on_some) [
          | inr none ↦ rw none (λ some. both_ways _ none (granted_some some))
          | inl some ↦
              elim (cases_Bool on_all) [
                | inl all ↦ rw (some, all) (some_granted some, all_granted all)
                | inr not_all ↦ rw (some, not_all) (some_granted some, λ all. both_ways _ not_all (granted_all all))
              ]
        ])

  module _ (operation : Operation) where
    abbrev own : Option (List ℕ) → List (ℕ × Binding)
    own principal = filter (is_for principal) near

    from_is : (principal host : Option (List ℕ))
        → reach_from (map (place_on rules) below) (own principal) operation principal host
        ≡ record {
          principal = principal;
          host = host;
          share = share_of (list_any (yes_at (own principal) host operation) (map (place_on rules) below))
              (list_all (yes_at (own principal) host operation) (map (place_on rules) below));
        }
    unfolding reach_from
    from_is principal host = refl

    by_list : (principal : Option (List ℕ)) → is_super_party rules.supers principal ≡ false
        → reaches_by rules.supers (map (place_on rules) below) near operation principal
        ≡ map (reach_from (map (place_on rules) below) (own principal) operation principal)
        (hosts_named (own principal))
    unfolding reaches_by
    by_list principal plain = rw plain refl

    by_none : (principal : Option (List ℕ)) → is_super_party rules.supers principal ≡ true
        → reaches_by rules.supers (map (place_on rules) below) near operation principal ≡ []
    unfolding reaches_by
    by_none principal super = rw super refl

    below_list : reaches_below rules operation resource prefix
        ≡ flat_map (reaches_by rules.supers (map (place_on rules) below) near operation) (principals_named near)
    unfolding reaches_below
    below_list = refl

    -- the share of what is listed
    share_is : (one : Reach) → Contains (reaches_below rules operation resource prefix) one
        → one.share ≡ share_of (list_any (yes_at (own one.principal) one.host operation) (map (place_on rules) below))
        (list_all (yes_at (own one.principal) one.host operation) (map (place_on rules) below))
    share_is one there =
        let (principal, (named, at_principal)) =
        from_flat (reaches_by rules.supers (map (place_on rules) below) near operation) (principals_named near) one
        (subst (λ (rs : List Reach). Contains rs one) below_list there) in
        elim (cases_Bool (is_super_party rules.supers principal)) [
          | inl super ↦
              let none = subst (λ (rs : List Reach). Contains rs one) (by_none principal super) at_principal in
              absurd (omega (arith, none.1))
          | inr plain ↦
              let (host, (_, is)) = given_by
              (reach_from (map (place_on rules) below) (own principal) operation principal)
              (hosts_named (own principal)) one
              (subst (λ (rs : List Reach). Contains rs one) (by_list principal plain) at_principal) in
              let parts = sym (from_is principal host) ∙ is in
              let whom : principal ≡ one.principal = ap (λ (r : Reach). r.principal) parts in
              let from : host ≡ one.host = ap (λ (r : Reach). r.host) parts in
              sym (ap (λ (r : Reach). r.share) parts)
              ∙ ap (λ (p : Option (List ℕ)).
              share_of (list_any (yes_at (own p) host operation) (map (place_on rules) below))
              (list_all (yes_at (own p) host operation) (map (place_on rules) below))) whom
              ∙ ap (λ (h : Option (List ℕ)).
              share_of (list_any (yes_at (own one.principal) h operation) (map (place_on rules) below))
              (list_all (yes_at (own one.principal) h operation) (map (place_on rules) below))) from
        ]

    told : (principal host : List ℕ) → is_super rules.supers principal ≡ false
        → (one : Reach) × (Contains (reaches_below rules operation resource prefix) one
        × IsAsker rules resource prefix one principal host)
    told principal host plain =
        let party : Option (List ℕ) = party_for (principals_of near) principal in
        let hosts : List (List ℕ) = hosts_of (own party) in
        let from : Option (List ℕ) = party_for hosts host in
        let one : Reach = reach_from (map (place_on rules) below) (own party) operation party from in
        let no_super = plain_party rules.supers (principals_of near) principal plain in
        let parts = from_is party from in
        let at_host : Contains (reaches_by rules.supers (map (place_on rules) below) near operation party) one =
        subst (λ (rs : List Reach). Contains rs one) (sym (by_list party no_super))
        (among_mapped (reach_from (map (place_on rules) below) (own party) operation party) (hosts_named (own party))
        from
        (subst (λ (ps : List (Option (List ℕ))). Contains ps from) (sym (hosts_are (own party)))
        (party_there hosts host))) in
        let there : Contains (reaches_below rules operation resource prefix) one =
        subst (λ (rs : List Reach). Contains rs one) (sym below_list)
        (in_flat (reaches_by rules.supers (map (place_on rules) below) near operation) (principals_named near) party
        one
        (subst (λ (ps : List (Option (List ℕ))). Contains ps party) (sym (principals_are near))
        (party_there (principals_of near) principal)) at_host) in
        let asker : IsAsker rules resource prefix (record {
          principal = party;
          host = from;
          share = share_of (list_any (yes_at (own party) from operation) (map (place_on rules) below))
              (list_all (yes_at (own party) from operation) (map (place_on rules) below));
        }) principal host = record {
          who = λ entry is_near.
              covers_same (codes "User:*") entry.1.principal principal (principals_of near)
              (among_mapped (λ (e : ℕ × Binding). e.1.principal) near entry is_near);
          hosts = λ entry is_near covered.
              covers_same (codes "*") entry.1.host host hosts
              (among_mapped (λ (e : ℕ × Binding). e.1.host) (own party) entry
              (kept_by_filter (is_for party) near entry is_near covered));
        } in
        (one, (there, subst (λ (r : Reach). IsAsker rules resource prefix r principal host) (sym parts) asker))

pub lists_reaches : (rules : Contents) (operation : Operation) (resource : ResourceKind) (prefix : List ℕ)
    (found : List Reach)
    → found ≡ reaches_below rules operation resource prefix → ListsReaches rules operation resource prefix found
lists_reaches rules operation resource prefix found is = record {
  exact = λ one principal host there plain of_class.
      means rules resource prefix one principal host operation of_class plain
      (share_is rules resource prefix operation one (subst (λ (rs : List Reach). Contains rs one) is there));
  all = λ principal host plain.
      let (one, (there, asker)) = told rules resource prefix operation principal host plain in
      (one, (subst (λ (rs : List Reach). Contains rs one) (sym is) there, asker));
}
