-- The allows that are listed are those that a deny always beats.
use Rattle.std.proofs.Common.{Bool, Contains, List, Option, true, false, not, map, sym, subst, ap, refl, arith, inl, inr, [], ◌&&◌, ◌==◌, ◌≡◌, ◌∙◌, ℕ, sum}
use Rattle.std.proofs.lemmas.Bool.{and_from, and_parts, both_ways, cases_Bool, eqb-true, eq-eqb, not-true}
use Rattle.std.specs.List.{filter, flat_map, list_any}
use Rattle.kob_names.specs.Binding.{Binding}
use Rattle.kob_names.specs.declared.kinds.Operation.{Operation}
use Rattle.kob_names.specs.declared.kinds.Permission.TheVariants.{Allow, Deny}
use Rattle.kob_authorizer.proofs.Entries.{among_mapped, any_passes, given_by, kept_by_filter, passing, was_kept}
use Rattle.kob_authorizer.specs.Decide.{Contents, IsRising, Question, is_hit}
use Rattle.kob_policy_review.proofs.Alone.{one_of_serial}
use Rattle.kob_policy_review.proofs.Answering.{filter_in}
use Rattle.kob_policy_review.proofs.Changing.{from_flat, in_flat}
use Rattle.kob_policy_review.proofs.Deciding.{any_some, hit_is, hits_are}
use Rattle.kob_policy_review.proofs.Marks.{askable_marked, in_sum, stands_for, stands_marked, super_marked}
use Rattle.kob_policy_review.proofs.Needing.{asked_there, plain_party}
use Rattle.kob_policy_review.proofs.Standing.{all_named, hosts_are, only_named, party_for, party_there, principals_are, target_for, target_there}
use Rattle.kob_policy_review.specs.Alike.{hosts_of, principals_of, spare, weight}
use Rattle.kob_policy_review.specs.Classes.{hosts_named, is_for, is_met, is_on, open_targets, operations, principals_named, representative, targets_named}
use Rattle.kob_policy_review.specs.Needed.{is_super_party, met}
use Rattle.kob_policy_review.specs.Shadows.{BearsOn, IsShadowed, ListsShadowed, bearing, bearing_by, bearing_from, bearing_on, bearing_to, is_between, is_shadowed, shadowed_in, serial_of_entry}
use Rattle.kob_policy_review.specs.declared.class.Class.{Class}
use Rattle.kob_policy_review.specs.declared.class.Target.{Target}

module _ (beaten : Bool) (rules : Contents) (rising : IsRising 1 rules.entries rules.next) where
  abbrev matching : Target → List (ℕ × Binding)
  matching target = filter (is_on target) rules.entries

  abbrev asking : Target → Option (List ℕ) → List (ℕ × Binding)
  asking target principal = filter (is_for principal) (matching target)

  to_list : (target : Target) (principal host : Option (List ℕ)) (operation : Operation)
      → (beaten && list_any (is_met Deny host operation) (asking target principal)) ≡ false
      → bearing_to beaten (asking target principal) host operation
      ≡ met Allow host operation (asking target principal)
  unfolding bearing_to
  to_list target principal host operation open' = rw open' refl

  to_none : (target : Target) (principal host : Option (List ℕ)) (operation : Operation)
      → (beaten && list_any (is_met Deny host operation) (asking target principal)) ≡ true
      → bearing_to beaten (asking target principal) host operation ≡ []
  unfolding bearing_to
  to_none target principal host operation shut = rw shut refl

  from_list : (target : Target) (principal host : Option (List ℕ))
      → bearing_from beaten (asking target principal) host
      ≡ flat_map (bearing_to beaten (asking target principal) host) operations
  unfolding bearing_from
  from_list target principal host = refl

  by_list : (target : Target) (principal : Option (List ℕ)) → is_super_party rules.supers principal ≡ false
      → bearing_by beaten rules.supers (matching target) principal
      ≡ flat_map (bearing_from beaten (asking target principal)) (hosts_named (asking target principal))
  unfolding bearing_by
  by_list target principal plain = rw plain refl

  by_none : (target : Target) (principal : Option (List ℕ)) → is_super_party rules.supers principal ≡ true
      → bearing_by beaten rules.supers (matching target) principal ≡ []
  unfolding bearing_by
  by_none target principal super = rw super refl

  on_list : (target : Target) → bearing_on beaten rules target
      ≡ flat_map (bearing_by beaten rules.supers (matching target)) (principals_named (matching target))
  unfolding bearing_on
  on_list target = refl

  of_list : bearing beaten rules ≡ flat_map (bearing_on beaten rules) (targets_named rules.entries)
  unfolding bearing
  of_list = refl

  -- a question on which the binding bears, without a deny where that counts
  abbrev Bears : ℕ × Binding → Type 0
  Bears entry = (question : Question) × (BearsOn rules entry question
      × ((beaten && list_any (is_hit Deny question) rules.entries) ≡ false))

  bears_at : (class : Class) (entry : ℕ × Binding) → Contains rules.entries entry
      → Contains (targets_named rules.entries) class.target → is_super_party rules.supers class.principal ≡ false
      → Contains operations class.operation
      → (beaten && list_any (is_met Deny class.host class.operation) (asking class.target class.principal)) ≡ false
      → Contains (met Allow class.host class.operation (asking class.target class.principal)) entry.0 → Bears entry
  bears_at class entry there on plain op open' is_met_there =
      let question : Question = representative (spare rules) class in
      let stands = stands_marked (spare rules) class rules.entries
      (λ e in_rules. omega (arith, in_sum weight rules.entries e in_rules)) in
      let (other, (kept, same)) = given_by (λ (e : ℕ × Binding). e.0)
      (filter (is_met Allow class.host class.operation) (asking class.target class.principal)) entry.0 is_met_there in
      let at_met = was_kept (is_met Allow class.host class.operation) (asking class.target class.principal) other
      kept in
      let at_for = was_kept (is_for class.principal) (matching class.target) other at_met.0 in
      let at_on = was_kept (is_on class.target) rules.entries other at_for.0 in
      let is : other ≡ entry = one_of_serial 1 rules.next rules.entries other entry rising at_on.0 there same in
      let hit : is_hit Allow question other ≡ true =
      hit_is question class.target class.principal class.host rules.entries stands Allow other at_on.0
      ∙ and_from _ _ at_on.1 (and_from _ _ at_for.1 at_met.1) in
      let denies = hits_are question class.target class.principal class.host rules.entries stands Deny
      ∙ sym (any_some (is_met Deny class.host class.operation) (asking class.target class.principal)) in (
        question,
        (
          record {
            askable = askable_marked (spare rules) class rules.entries op
                (only_named open_targets rules.entries class.target on);
            plain = super_marked (spare rules) rules.supers class.principal
                (λ user in_supers. omega (arith, in_sum sum rules.supers user in_supers)) ∙ plain;
            hit = subst (λ (e : ℕ × Binding). is_hit Allow question e ≡ true) is hit;
          },
          ap (λ b. beaten && b) denies ∙ open',
        ),
      )

  -- what is found bears somewhere
  pub found_bears : (entry : ℕ × Binding) → Contains rules.entries entry → Contains (bearing beaten rules) entry.0
      → Bears entry
  found_bears entry there found =
      let (target, (on, at_target)) = from_flat (bearing_on beaten rules) (targets_named rules.entries) entry.0
      (subst (λ (ss : List ℕ). Contains ss entry.0) of_list found) in
      let (principal, (who, at_principal)) = from_flat (bearing_by beaten rules.supers (matching target))
      (principals_named (matching target)) entry.0
      (subst (λ (ss : List ℕ). Contains ss entry.0) (on_list target) at_target) in
      elim (cases_Bool (is_super_party rules.supers principal)) [
        | inl super ↦
            let none = subst (λ (ss : List ℕ). Contains ss entry.0) (by_none target principal super) at_principal in
            absurd (omega (arith, none.1))
        | inr plain ↦
            let (host, (where_from, at_host)) = from_flat (bearing_from beaten (asking target principal))
            (hosts_named (asking target principal)) entry.0
            (subst (λ (ss : List ℕ). Contains ss entry.0) (by_list target principal plain) at_principal) in
            let (operation, (op, at_operation)) =
            from_flat (bearing_to beaten (asking target principal) host) operations entry.0
            (subst (λ (ss : List ℕ). Contains ss entry.0) (from_list target principal host) at_host) in
            elim (cases_Bool (beaten && list_any (is_met Deny host operation) (asking target principal))) [
              | inl shut ↦
                  let none = subst (λ (ss : List ℕ). Contains ss entry.0)
                  (to_none target principal host operation shut) at_operation in
                  absurd (omega (arith, none.1))
              | inr open' ↦
                  bears_at (record { principal = principal; host = host; operation = operation; target = target })
                  entry there on
                  plain op open' (subst (λ (ss : List ℕ). Contains ss entry.0)
                  (to_list target principal host operation open') at_operation)
            ]
      ]

  -- and what bears somewhere is found
  pub bears_found : (entry : ℕ × Binding) → Contains rules.entries entry → Bears entry
      → Contains (bearing beaten rules) entry.0
  bears_found entry there bears =
      let question : Question = bears.0 in
      let bears_on = bears.1.0 in
      let target : Target = target_for rules.entries question.resource question.name in
      let principal : Option (List ℕ) = party_for (principals_of (matching target)) question.principal in
      let hosts : List (List ℕ) = hosts_of (asking target principal) in
      let host : Option (List ℕ) = party_for hosts question.host in
      let stands = stands_for rules.entries rules.entries question (principals_of (matching target)) hosts
      bears_on.askable
      (λ e in_rules. in_rules)
      (λ e in_rules on. among_mapped (λ (x : ℕ × Binding). x.1.principal) (matching target) e
      (kept_by_filter (is_on target) rules.entries e in_rules on))
      (λ e in_rules on asks. among_mapped (λ (x : ℕ × Binding). x.1.host) (asking target principal) e
      (kept_by_filter (is_for principal) (matching target) e
      (kept_by_filter (is_on target) rules.entries e in_rules on) asks)) in
      let plain = plain_party rules.supers (principals_of (matching target)) question.principal bears_on.plain in
      let parts = and_parts _ _
      (sym (hit_is question target principal host rules.entries stands Allow entry there) ∙ bears_on.hit) in
      let more = and_parts _ _ parts.1 in
      let denies = hits_are question target principal host rules.entries stands Deny
      ∙ sym (any_some (is_met Deny host question.operation) (asking target principal)) in
      let open' : (beaten && list_any (is_met Deny host question.operation) (asking target principal)) ≡ false =
      ap (λ b. beaten && b) (sym denies) ∙ bears.1.1 in
      let at_operation = subst (λ (ss : List ℕ). Contains ss entry.0)
      (sym (to_list target principal host question.operation open'))
      (among_mapped (λ (e : ℕ × Binding). e.0)
      (filter (is_met Allow host question.operation) (asking target principal)) entry
      (kept_by_filter (is_met Allow host question.operation) (asking target principal) entry
      (kept_by_filter (is_for principal) (matching target) entry
      (kept_by_filter (is_on target) rules.entries entry there parts.0) more.0) more.1)) in
      let at_host = subst (λ (ss : List ℕ). Contains ss entry.0) (sym (from_list target principal host))
      (in_flat (bearing_to beaten (asking target principal) host) operations question.operation entry.0
      (asked_there question.operation bears_on.askable.operation) at_operation) in
      let at_principal = subst (λ (ss : List ℕ). Contains ss entry.0) (sym (by_list target principal plain))
      (in_flat (bearing_from beaten (asking target principal)) (hosts_named (asking target principal)) host entry.0
      (subst (λ (ps : List (Option (List ℕ))). Contains ps host) (sym (hosts_are (asking target principal)))
      (party_there hosts question.host)) at_host) in
      let at_target = subst (λ (ss : List ℕ). Contains ss entry.0) (sym (on_list target))
      (in_flat (bearing_by beaten rules.supers (matching target)) (principals_named (matching target)) principal
      entry.0
      (subst (λ (ps : List (Option (List ℕ))). Contains ps principal) (sym (principals_are (matching target)))
      (party_there (principals_of (matching target)) question.principal)) at_principal) in
      subst (λ (ss : List ℕ). Contains ss entry.0) (sym of_list)
      (in_flat (bearing_on beaten rules) (targets_named rules.entries) target entry.0
      (all_named open_targets rules.entries target (target_there rules.entries question.resource question.name))
      at_target)

in_list : (serials : List ℕ) (serial : ℕ) → list_any (λ s. s == serial) serials ≡ true → Contains serials serial
in_list serials serial found =
    let (s, (there, is)) = passing (λ s'. s' == serial) serials found in
    subst (Contains serials) (eqb-true s serial is) there

any_list : (serials : List ℕ) (serial : ℕ) → Contains serials serial → list_any (λ s. s == serial) serials ≡ true
any_list serials serial there = any_passes (λ s. s == serial) serials serial there (eq-eqb serial serial refl)

module _ (rules : Contents) (rising : IsRising 1 rules.entries rules.next) (entry : ℕ × Binding)
    (there : Contains rules.entries entry) where
  shadowed_is : is_shadowed rules entry ≡ true → IsShadowed rules entry
  shadowed_is is =
      let parts = and_parts _ _ is in
      record {
        beaten = λ question bears.
            elim (cases_Bool (list_any (is_hit Deny question) rules.entries)) [
              | inl denied ↦ denied
              | inr free ↦
                  absurd (both_ways _ (not-true _ parts.1)
                  (any_list (bearing true rules) entry.0
                  (bears_found true rules rising entry there (question, (bears, free)))))
            ];
        somewhere =
            let (question, (bears, open')) = found_bears false rules rising entry there
            (in_list (bearing false rules) entry.0 parts.0) in (question, bears);
      }

  is_shadowed_so : IsShadowed rules entry → is_shadowed rules entry ≡ true
  is_shadowed_so shadowed =
      and_from _ _
      (any_list (bearing false rules) entry.0
      (bears_found false rules rising entry there (shadowed.somewhere.0, (shadowed.somewhere.1, refl))))
      (elim (cases_Bool (list_any (λ serial. serial == entry.0) (bearing true rules))) [
        | inl serves ↦
            let (question, (bears, free)) = found_bears true rules rising entry there
            (in_list (bearing true rules) entry.0 serves) in
            absurd (both_ways _ free (shadowed.beaten question bears))
        | inr none ↦ ap not none
      ])

both_same : (one one' other other' : Bool) → one ≡ one' → other ≡ other' → (one && not other) ≡ (one' && not other')
both_same one one' other other' first second = cc

pub lists_shadowed : (rules : Contents) → IsRising 1 rules.entries rules.next → (found : List ℕ)
    → found ≡ map (λ (entry : ℕ × Binding). entry.0) (filter (is_shadowed rules) rules.entries)
    → ListsShadowed rules found
lists_shadowed rules rising found is = record {
  exact = λ entry there. (
    (λ has.
        let (other, (kept, same)) =
        given_by (λ (e : ℕ × Binding). e.0) (filter (is_shadowed rules) rules.entries) entry.0
        (subst (λ (ss : List ℕ). Contains ss entry.0) is has) in
        let was = was_kept (is_shadowed rules) rules.entries other kept in
        let equal : other ≡ entry = one_of_serial 1 rules.next rules.entries other entry rising was.0 there same in
        shadowed_is rules rising entry there (subst (λ (e : ℕ × Binding). is_shadowed rules e ≡ true) equal was.1)),
    (λ shadowed.
        subst (λ (ss : List ℕ). Contains ss entry.0) (sym is)
        (among_mapped (λ (e : ℕ × Binding). e.0) (filter (is_shadowed rules) rules.entries) entry
        (kept_by_filter (is_shadowed rules) rules.entries entry there
        (is_shadowed_so rules rising entry there shadowed)))),
  );
}

-- what two sets of serials tell are the shadowed
pub between_are : (rules : Contents) → (some others : ℕ → Bool)
    → ((serial : ℕ) → some serial ≡ list_any (λ s. s == serial) (bearing false rules))
    → ((serial : ℕ) → others serial ≡ list_any (λ s. s == serial) (bearing true rules)) → (found : List ℕ)
    → found ≡ map serial_of_entry (filter (is_between some others) rules.entries) → found ≡ shadowed_in rules
between_are rules some others same_some same_others found is =
    is ∙ ap (map serial_of_entry) (filter_in (is_between some others) (is_shadowed rules) rules.entries
    (λ entry there. both_same _ _ _ _ (same_some entry.0) (same_others entry.0)))

-- and they are listed
pub lists_between : (rules : Contents) → IsRising 1 rules.entries rules.next → (some others : ℕ → Bool)
    → ((serial : ℕ) → some serial ≡ list_any (λ s. s == serial) (bearing false rules))
    → ((serial : ℕ) → others serial ≡ list_any (λ s. s == serial) (bearing true rules)) → (found : List ℕ)
    → found ≡ map serial_of_entry (filter (is_between some others) rules.entries) → ListsShadowed rules found
lists_between rules rising some others same_some same_others found is =
    lists_shadowed rules rising found (between_are rules some others same_some same_others found is)
