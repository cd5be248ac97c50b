-- A binding is needed exactly where an answer changes without it.
use Rattle.std.proofs.Common.{Bool, Contains, List, Option, true, false, not, sym, subst, ap, refl, arith, inl, inr, [], ◌∷◌, ◌&&◌, ◌||◌, ◌==◌, ◌≡◌, ◌≢◌, ◌<◌, ◌∙◌, ℕ, sum}
use Rattle.std.proofs.lemmas.Bool.{both_ways, cases_Bool}
use Rattle.std.proofs.lemmas.List.Folds.{list_any-append}
use Rattle.std.specs.List.{filter, flat_map, list_any}
use Rattle.kob_names.specs.Binding.{Binding}
use Rattle.kob_names.specs.Same.{same_text}
use Rattle.kob_names.specs.declared.kinds.Operation.{Operation}
use Rattle.kob_names.specs.declared.kinds.Permission.TheVariants.{Allow, Deny}
use Rattle.kob_names.specs.declared.kinds.Operation.TheVariants.{All, Read, Write, Create, Delete, Alter, Describe, ClusterAction, DescribeConfigs, AlterConfigs, IdempotentWrite}
use Rattle.kob_authorizer.proofs.Entries.{among_mapped, kept_by_filter, passing, rising_filter, was_kept}
use Rattle.kob_authorizer.specs.Decide.{Contents, IsRising, Question, is_hit, is_match, is_super}
use Rattle.kob_policy_review.proofs.Alone.{differs, filter_swap, told}
use Rattle.kob_policy_review.proofs.Deciding.{answered_as, granted, yes_in, yes_is}
use Rattle.kob_policy_review.proofs.Marks.{askable_marked, in_sum, stands_for, stands_marked, super_marked}
use Rattle.kob_policy_review.proofs.Standing.{all_named, hosts_are, none_passes, only_named, party_for, party_there, principals_are, target_for, target_there}
use Rattle.kob_policy_review.specs.Alike.{AnswerAlike, hosts_of, is_yes, principals_of, spare, weight, without}
use Rattle.kob_policy_review.specs.Classes.{hosts_named, is_for, is_on, open_targets, operations, principals_named, representative, targets, targets_named}
use Rattle.kob_policy_review.specs.Needed.{closing, is_super_party, needed, needed_among, needed_by, needed_from, needed_on, needed_to}
use Rattle.kob_policy_review.specs.declared.class.Class.{Class}
use Rattle.kob_policy_review.specs.declared.class.Target.{Target}

module _ {A B : Type 0} (p : B → Bool) (f : A → List B) where
  pub any_flat : (xs : List A) → list_any p (flat_map f xs) ≡ list_any (λ x. list_any p (f x)) xs
  any_flat [] = refl
  any_flat (x ∷ xs) = list_any-append p (f x) (flat_map f xs) ∙ ap (λ b. list_any p (f x) || b) (any_flat xs)

  -- what is found nowhere is not found in one part
  none_flat : (xs : List A) (x : A) → list_any p (flat_map f xs) ≡ false → Contains xs x → list_any p (f x) ≡ false
  none_flat xs x none there = none_passes (λ y. list_any p (f y)) xs x (sym (any_flat xs) ∙ none) there

  -- what is found is found in a part
  pub some_flat : (xs : List A) → list_any p (flat_map f xs) ≡ true
      → (x : A) × (Contains xs x × (list_any p (f x) ≡ true))
  some_flat xs found = passing (λ y. list_any p (f y)) xs (sym (any_flat xs) ∙ found)

needed_is : (rules : Contents) → needed rules ≡ flat_map (needed_on rules) (targets_named rules.entries)
unfolding needed
needed_is rules = refl

same_unless : (one other : Bool) → differs one other ≡ false → one ≡ other
same_unless true true is = refl
same_unless true false is = absurd cc
same_unless false true is = absurd cc
same_unless false false is = refl

not_same : (one other : Bool) → one ≡ other → differs one other ≡ true → ⊥
not_same true true same is = cc
not_same true false same is = cc
not_same false true same is = cc
not_same false false same is = cc

pub asked_there : (operation : Operation) → operation ≢ All → Contains operations operation
asked_there All other = absurd (other refl)
asked_there Read other = (0, omega arith, refl)
asked_there Write other = (1, omega arith, refl)
asked_there Create other = (2, omega arith, refl)
asked_there Delete other = (3, omega arith, refl)
asked_there Alter other = (4, omega arith, refl)
asked_there Describe other = (5, omega arith, refl)
asked_there ClusterAction other = (6, omega arith, refl)
asked_there DescribeConfigs other = (7, omega arith, refl)
asked_there AlterConfigs other = (8, omega arith, refl)
asked_there IdempotentWrite other = (9, omega arith, refl)

-- one who is no super user stands for no super user
pub plain_party : (supers texts : List (List ℕ)) (text : List ℕ) → is_super supers text ≡ false
    → is_super_party supers (party_for texts text) ≡ false
plain_party supers texts text plain =
    elim (cases_Bool (list_any (same_text text) texts)) [
      | inl named ↦ rw named plain
      | inr unnamed ↦ rw unnamed refl
    ]

granted_super : (super denied allowed opened : Bool) → super ≡ true → granted super denied allowed opened ≡ true
granted_super super denied allowed opened is = rw is refl

-- a super user is granted all
pub super_yes : (rules : Contents) (question : Question) → is_super rules.supers question.principal ≡ true
    → is_yes rules question ≡ true
super_yes rules question super =
    yes_is rules question ∙ granted_super (is_super rules.supers question.principal)
    (list_any (is_hit Deny question) rules.entries) (list_any (is_hit Allow question) rules.entries)
    (rules.everyone && not (list_any (is_match question) rules.entries)) super

module _ (serial : ℕ) where
  abbrev pub is_it : ℕ → Bool
  is_it s = s == serial

  pub unfolded_on : (rules : Contents) (target : Target) → list_any is_it (needed_on rules target)
      ≡ list_any is_it (flat_map (needed_by rules.supers rules.everyone (filter (is_on target) rules.entries))
      (principals_named (filter (is_on target) rules.entries)))
  unfolding needed_on
  unfolded_on rules target = refl

  pub unfolded_by : (supers : List (List ℕ)) (everyone : Bool) (matching : List (ℕ × Binding))
      (principal : Option (List ℕ))
      → is_super_party supers principal ≡ false
      → needed_by supers everyone matching principal
      ≡ flat_map (needed_from (closing everyone matching) (filter (is_for principal) matching))
      (hosts_named (filter (is_for principal) matching))
  unfolding needed_by needed_among
  unfolded_by supers everyone matching principal plain = rw plain refl

  pub super_by : (supers : List (List ℕ)) (everyone : Bool) (matching : List (ℕ × Binding))
      (principal : Option (List ℕ))
      → is_super_party supers principal ≡ true → list_any is_it (needed_by supers everyone matching principal) ≡ false
  unfolding needed_by needed_among
  super_by supers everyone matching principal super = rw super refl

  pub unfolded_from : (alone : Option ℕ) (asking : List (ℕ × Binding)) (host : Option (List ℕ))
      → needed_from alone asking host ≡ flat_map (needed_to alone asking host) operations
  unfolding needed_from
  unfolded_from alone asking host = refl

-- what is needed on the names that a longer list of entries tells apart
abbrev pub needed_over : List (ℕ × Binding) → Contents → List ℕ
needed_over all rules = flat_map (needed_on rules) (targets_named all)

module _ (rules : Contents) (rising : IsRising 1 rules.entries rules.next) (serial : ℕ) (all : List (ℕ × Binding))
    (within : (entry : ℕ × Binding) → Contains rules.entries entry → Contains all entry) where
  abbrev on_target : Target → List (ℕ × Binding)
  on_target target = filter (is_on target) rules.entries

  -- the answer of a class changes without the binding exactly where that is needed for it
  told_at : (target : Target) (principal host : Option (List ℕ)) (operation : Operation)
      → differs (yes_in false rules.everyone (on_target target) principal host operation)
      (yes_in false rules.everyone (filter (is_on target) (without serial rules).entries) principal host operation)
      ≡ list_any (is_it serial) (needed_to (closing rules.everyone (on_target target))
      (filter (is_for principal) (on_target target)) host operation)
  told_at target principal host operation =
      rw (filter_swap (is_on target) (λ (entry : ℕ × Binding). not (entry.0 == serial)) rules.entries)
      (told serial 1 rules.next host operation rules.everyone (on_target target) principal
      (rising_filter (is_on target) 1 rules.next rules.entries rising))

  was_there : (entry : ℕ × Binding) → Contains (without serial rules).entries entry → Contains rules.entries entry
  was_there entry there = (was_kept (λ (e : ℕ × Binding). not (e.0 == serial)) rules.entries entry there).0

  -- without a binding that is needed nowhere, no answer changes
  pub alike_over : list_any (is_it serial) (needed_over all rules) ≡ false → AnswerAlike rules (without serial rules)
  alike_over none question askable =
      elim (cases_Bool (is_super rules.supers question.principal)) [
        | inl super ↦ super_yes rules question super ∙ sym (super_yes (without serial rules) question super)
        | inr plain ↦
            let target : Target = target_for all question.resource question.name in
            let matching : List (ℕ × Binding) = on_target target in
            let principal : Option (List ℕ) = party_for (principals_of matching) question.principal in
            let asking : List (ℕ × Binding) = filter (is_for principal) matching in
            let host : Option (List ℕ) = party_for (hosts_of asking) question.host in
            let who : (entry : ℕ × Binding) → Contains rules.entries entry → is_on target entry ≡ true
            → Contains (principals_of matching) entry.1.principal =
            λ entry there on. among_mapped (λ (e : ℕ × Binding). e.1.principal) matching entry
            (kept_by_filter (is_on target) rules.entries entry there on) in
            let where_from : (entry : ℕ × Binding) → Contains rules.entries entry → is_on target entry ≡ true
            → is_for principal entry ≡ true → Contains (hosts_of asking) entry.1.host =
            λ entry there on asks. among_mapped (λ (e : ℕ × Binding). e.1.host) asking entry
            (kept_by_filter (is_for principal) matching entry
            (kept_by_filter (is_on target) rules.entries entry there on) asks) in
            let before = answered_as question target principal host rules
            (stands_for all rules.entries question (principals_of matching) (hosts_of asking) askable
            within who where_from) in
            let after = answered_as question target principal host (without serial rules)
            (stands_for all (without serial rules).entries question (principals_of matching) (hosts_of asking)
            askable (λ entry there. within entry (was_there entry there))
            (λ entry there. who entry (was_there entry there))
            (λ entry there. where_from entry (was_there entry there))) in
            let at_target = none_flat (is_it serial) (needed_on rules) (targets_named all) target none
            (all_named open_targets all target (target_there all question.resource question.name)) in
            let at_principal = none_flat (is_it serial) (needed_by rules.supers rules.everyone matching)
            (principals_named matching) principal (sym (unfolded_on serial rules target) ∙ at_target)
            (subst (λ ps. Contains ps principal) (sym (principals_are matching))
            (party_there (principals_of matching) question.principal)) in
            let at_host = none_flat (is_it serial) (needed_from (closing rules.everyone matching) asking)
            (hosts_named asking) host
            (ap (list_any (is_it serial)) (sym (unfolded_by serial rules.supers rules.everyone matching principal
            (plain_party rules.supers (principals_of matching) question.principal plain))) ∙ at_principal)
            (subst (λ ps. Contains ps host) (sym (hosts_are asking)) (party_there (hosts_of asking) question.host)) in
            let at_operation = none_flat (is_it serial) (needed_to (closing rules.everyone matching) asking host)
            operations question.operation
            (ap (list_any (is_it serial)) (sym (unfolded_from serial (closing rules.everyone matching) asking host))
            ∙ at_host)
            (asked_there question.operation askable.operation) in
            let same = same_unless _ _ (told_at target principal host question.operation ∙ at_operation) in
            before
            ∙ ap (λ s. yes_in s rules.everyone matching principal host question.operation) plain
            ∙ same
            ∙ ap (λ s. yes_in s rules.everyone (filter (is_on target) (without serial rules).entries) principal host
            question.operation) (sym plain)
            ∙ sym after
      ]

  clear : (entry : ℕ × Binding) → Contains rules.entries entry → weight entry < spare rules
  clear entry there = omega (arith, in_sum weight rules.entries entry there)

  clear_user : (user : List ℕ) → Contains rules.supers user → sum user < spare rules
  clear_user user there = omega (arith, in_sum sum rules.supers user there)

  -- the representative of a class in which a binding is needed
  changed : (class : Class) → Contains (targets all) class.target → Contains operations class.operation
      → is_super_party rules.supers class.principal ≡ false
      → list_any (is_it serial) (needed_to (closing rules.everyone (on_target class.target))
      (filter (is_for class.principal) (on_target class.target)) class.host class.operation) ≡ true
      → AnswerAlike rules (without serial rules) → ⊥
  changed class on op plain found alike =
      let question : Question = representative (spare rules) class in
      let no_super = super_marked (spare rules) rules.supers class.principal clear_user ∙ plain in
      let before = answered_as question class.target class.principal class.host rules
      (stands_marked (spare rules) class rules.entries clear) in
      let after = answered_as question class.target class.principal class.host (without serial rules)
      (stands_marked (spare rules) class (without serial rules).entries
      (λ entry there. clear entry (was_there entry there))) in
      let same = alike question (askable_marked (spare rules) class all op on) in
      let both : yes_in false rules.everyone (on_target class.target) class.principal class.host class.operation
      ≡ yes_in false rules.everyone (filter (is_on class.target) (without serial rules).entries) class.principal
      class.host class.operation =
      ap (λ s. yes_in s rules.everyone (on_target class.target) class.principal class.host class.operation)
      (sym no_super)
      ∙ sym before ∙ same ∙ after
      ∙ ap (λ s. yes_in s rules.everyone (filter (is_on class.target) (without serial rules).entries) class.principal
      class.host
      class.operation) no_super in
      not_same (yes_in false rules.everyone (on_target class.target) class.principal class.host class.operation)
      (yes_in false rules.everyone (filter (is_on class.target) (without serial rules).entries) class.principal
      class.host
      class.operation) both (told_at class.target class.principal class.host class.operation ∙ found)

  -- where a binding is needed, an answer changes without it
  pub changes_over : list_any (is_it serial) (needed_over all rules) ≡ true → AnswerAlike rules (without serial rules)
      → ⊥
  changes_over some alike =
      let (target, (on, at_target)) = some_flat (is_it serial) (needed_on rules) (targets_named all) some in
      let matching : List (ℕ × Binding) = on_target target in
      let (principal, (named, at_principal)) =
      some_flat (is_it serial) (needed_by rules.supers rules.everyone matching)
      (principals_named matching) (sym (unfolded_on serial rules target) ∙ at_target) in
      elim (cases_Bool (is_super_party rules.supers principal)) [
        | inl super ↦ both_ways _ (super_by serial rules.supers rules.everyone matching principal super) at_principal
        | inr plain ↦
            let asking : List (ℕ × Binding) = filter (is_for principal) matching in
            let (host, (from, at_host)) =
            some_flat (is_it serial) (needed_from (closing rules.everyone matching) asking)
            (hosts_named asking)
            (ap (list_any (is_it serial))
            (sym (unfolded_by serial rules.supers rules.everyone matching principal plain)) ∙ at_principal) in
            let (operation, (op, found)) =
            some_flat (is_it serial) (needed_to (closing rules.everyone matching) asking host)
            operations
            (ap (list_any (is_it serial)) (sym (unfolded_from serial (closing rules.everyone matching) asking host))
            ∙ at_host) in
            changed (record { principal = principal; host = host; operation = operation; target = target })
            (only_named open_targets all target on) op plain found alike
      ]

module _ (rules : Contents) (rising : IsRising 1 rules.entries rules.next) (serial : ℕ) where
  pub alike_without : list_any (is_it serial) (needed rules) ≡ false → AnswerAlike rules (without serial rules)
  alike_without none =
      alike_over rules rising serial rules.entries (λ entry there. there)
      (ap (list_any (is_it serial)) (sym (needed_is rules)) ∙ none)

  pub changes_without : list_any (is_it serial) (needed rules) ≡ true → AnswerAlike rules (without serial rules) → ⊥
  changes_without some =
      changes_over rules rising serial rules.entries (λ entry there. there)
      (ap (list_any (is_it serial)) (sym (needed_is rules)) ∙ some)
