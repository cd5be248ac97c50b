-- The answers on the way from one set of bindings to another.
use Rattle.std.proofs.Common.{◌≡◌, ◌⊎◌, ◌∙◌, ◌++◌, ◌&&◌, ◌||◌, ℕ, Bool, Contains, List, [], true, false, not, sym, ap, append-nil, refl, inl, inr}
use Rattle.std.proofs.lemmas.Bool.{and_parts, both_ways, cases_Bool, false_from_ne_true, not_from_false, not-true}
use Rattle.std.proofs.lemmas.List.Elements.{Contains-append_left, Contains-append_right}
use Rattle.std.specs.List.{list_any}
use Rattle.kob_names.proofs.SameBindings.{permission_decides}
use Rattle.kob_names.specs.Binding.{Binding}
use Rattle.kob_names.specs.declared.kinds.Permission.{Permission}
use Rattle.kob_names.specs.declared.kinds.Permission.TheVariants.{Allow, Deny}
use Rattle.kob_authorizer.proofs.Entries.{any_passes, passing}
use Rattle.kob_authorizer.specs.Decide.{Contents, Question, is_hit, is_match, is_super}
use Rattle.kob_policy_review.proofs.Deciding.{granted, yes_is}
use Rattle.kob_policy_review.specs.Alike.{is_yes}
use Rattle.kob_policy_text.specs.Steps.{HaveSameSettings, IsMatchedAlike, KeepAnswers, additions, is_among, removals, rules_after, steps}
use Rattle.kob_policy_text.specs.declared.commands.Step.{Step}
use Rattle.kob_policy_text.specs.declared.commands.Step.TheVariants.{Remove}
use Rattle.kob_policy_text.proofs.Doing.{Entries, Has, among_has, has_among, cases_has, after_steps, goes}
use Rattle.kob_policy_text.proofs.Stages.{is_removal, Over, Whole, Stage, cases_permission, Sound, either, all_arrive, adds_of_all, part_sound, stage_of}

-- What tests find in the bindings.

module _ (test : Binding → Bool) where
  abbrev any : Entries → Bool
  any entries = list_any (λ (entry : ℕ × Binding). test entry.1) entries

  any_over : (few many : Entries) → ((binding : Binding) → test binding ≡ true → Has few binding → Has many binding)
      → any few ≡ true → any many ≡ true
  any_over few many over is =
      let (entry, (there, passes)) = passing (λ (other : ℕ × Binding). test other.1) few is in
      let (other, (in_many, same)) = over entry.1 passes (entry, (there, refl)) in
      any_passes (λ (one : ℕ × Binding). test one.1) many other in_many (ap test same ∙ passes)

  any_either : (now few many : Entries) → ((binding : Binding) → Has now binding → Has few binding ⊎ Has many binding)
      → any now ≡ true → (any few ≡ true) ⊎ (any many ≡ true)
  any_either now few many from is =
      let (entry, (there, passes)) = passing (λ (other : ℕ × Binding). test other.1) now is in
      elim (from entry.1 (entry, (there, refl))) [
        | inl (other, (in_few, same)) ↦
            inl (any_passes (λ (one : ℕ × Binding). test one.1) few other in_few (ap test same ∙ passes))
        | inr (other, (in_many, same)) ↦
            inr (any_passes (λ (one : ℕ × Binding). test one.1) many other in_many (ap test same ∙ passes))
      ]

hits_with : (permission : Permission) (question : Question) (binding : Binding)
    → is_hit permission question (0, binding) ≡ true → binding.permission ≡ permission
hits_with permission question binding hits =
    (permission_decides binding.permission permission).0 (and_parts _ _ hits).0

-- Answers as truth values.

either_false : (now few many : Bool) → (now ≡ true → (few ≡ true) ⊎ (many ≡ true)) → few ≡ false → many ≡ false
    → now ≡ false
either_false now few many from few_not many_not =
    false_from_ne_true now (λ is. elim (from is) [
      | inl yes_few ↦ both_ways few few_not yes_few
      | inr yes_many ↦ both_ways many many_not yes_many
    ])

over_false : (now few : Bool) → (now ≡ true → few ≡ true) → few ≡ false → now ≡ false
over_false now few from not_few = false_from_ne_true now (λ is. both_ways few not_few (from is))

not_denied : (denied allowed opened : Bool) → granted false denied allowed opened ≡ true
    → (denied ≡ false) × ((allowed || opened) ≡ true)
not_denied true allowed opened is = absurd cc
not_denied false allowed opened is = (refl, is)

opens : (allowed everyone matched : Bool) → (allowed || (everyone && not matched)) ≡ true
    → (allowed ≡ true) ⊎ ((everyone ≡ true) × (matched ≡ false))
opens true everyone matched is = inl refl
opens false true false is = inr (refl, refl)
opens false true true is = absurd cc
opens false false matched is = absurd cc

granted_so : (denied allowed opened : Bool) → denied ≡ false → (allowed || opened) ≡ true
    → granted false denied allowed opened ≡ true
granted_so denied allowed opened d a = rw (d, a) refl

refused_so : (denied allowed everyone matched : Bool) → denied ≡ false
    → granted false denied allowed (everyone && not matched) ≡ false
    → (allowed ≡ false) × ((everyone ≡ false) ⊎ (matched ≡ true))
refused_so true allowed everyone matched d is = absurd cc
refused_so false true everyone matched d is = absurd cc
refused_so false false true true d is = (refl, inr refl)
refused_so false false true false d is = absurd cc
refused_so false false false matched d is = (refl, inl refl)

closed_so : (denied allowed everyone matched : Bool) → allowed ≡ false → (everyone ≡ false) ⊎ (matched ≡ true)
    → granted false denied allowed (everyone && not matched) ≡ false
closed_so true allowed everyone matched a closed = refl
closed_so false allowed everyone matched a (inl never) = rw (a, never) refl
closed_so false allowed true matched a (inr some) = rw (a, some) refl
closed_so false allowed false matched a (inr some) = rw a refl

denied_so : (denied allowed opened : Bool) → denied ≡ true → granted false denied allowed opened ≡ false
denied_so denied allowed opened d = rw d refl

-- The laws.

abbrev answer : Contents → Entries → Question → Bool
answer rules entries question =
    granted (is_super rules.supers question.principal) (list_any (is_hit Deny question) entries)
    (list_any (is_hit Allow question) entries) (rules.everyone && not (list_any (is_match question) entries))

answer_after : (before : Contents) (done : List Step) (question : Question)
    → is_yes (rules_after before done) question ≡ answer before (after_steps before.entries done) question
unfolding rules_after
answer_after before done question = yes_is (rules_after before done) question

answer_with : (before after : Contents) (question : Question) → HaveSameSettings before after
    → is_yes after question ≡ answer before after.entries question
answer_with before after question same =
    yes_is after question
    ∙ ap (λ (supers : List (List ℕ)).
    granted (is_super supers question.principal) (list_any (is_hit Deny question) after.entries)
    (list_any (is_hit Allow question) after.entries)
    (after.everyone && not (list_any (is_match question) after.entries)))
    (sym same.supers)
    ∙ ap (λ (everyone : Bool).
    granted (is_super before.supers question.principal) (list_any (is_hit Deny question) after.entries)
    (list_any (is_hit Allow question) after.entries) (everyone && not (list_any (is_match question) after.entries)))
    (sym same.everyone)

module _ (question : Question) where
  abbrev denied : Entries → Bool
  denied entries = list_any (is_hit Deny question) entries

  abbrev allowed : Entries → Bool
  allowed entries = list_any (is_hit Allow question) entries

  abbrev matched : Entries → Bool
  matched entries = list_any (is_match question) entries

  abbrev deny_hit : Binding → Bool
  deny_hit binding = is_hit Deny question (0, binding)

  abbrev allow_hit : Binding → Bool
  allow_hit binding = is_hit Allow question (0, binding)

  abbrev matching : Binding → Bool
  matching binding = is_match question (0, binding)

module _ (before after now : Entries) (question : Question) (everyone : Bool) where
  yes_kept : Whole before now ⊎ Whole after now
      → ((binding : Binding) → Has now binding → Has before binding ⊎ Has after binding)
      → (everyone ≡ true → not (matched question before) ≡ not (matched question after))
      → granted false (denied question before) (allowed question before) (everyone && not (matched question before))
      ≡ true
      → granted false (denied question after) (allowed question after) (everyone && not (matched question after))
      ≡ true
      → granted false (denied question now) (allowed question now) (everyone && not (matched question now)) ≡ true
  yes_kept whole either alike first second =
      let (deny_first, may_first) = not_denied (denied question before) (allowed question before) _ first in
      let (deny_second, may_second) = not_denied (denied question after) (allowed question after) _ second in
      granted_so (denied question now) (allowed question now) _
      (either_false (denied question now) (denied question before) (denied question after)
      (any_either (deny_hit question) now before after either) deny_first deny_second)
      (elim whole [
        | inl kept ↦
            elim (opens (allowed question before) everyone (matched question before) may_first) [
              | inl allows ↦ or_true (allowed question now) _
                  (any_over (allow_hit question) before now (λ binding is has. kept binding has) allows)
              | inr (is_open, none) ↦ opened is_open none (both_none is_open none)
            ]
        | inr kept ↦
            elim (opens (allowed question after) everyone (matched question after) may_second) [
              | inl allows ↦ or_true (allowed question now) _
                  (any_over (allow_hit question) after now (λ binding is has. kept binding has) allows)
              | inr (is_open, none) ↦ opened is_open (none_both is_open none) none
            ]
      ])
    where
      or_true : (one other : Bool) → one ≡ true → (one || other) ≡ true
      or_true one other is = rw is refl

      both_none : everyone ≡ true → matched question before ≡ false → matched question after ≡ false
      both_none is_open none =
          not-true (matched question after) (sym (alike is_open) ∙ not_from_false (matched question before) none)

      none_both : everyone ≡ true → matched question after ≡ false → matched question before ≡ false
      none_both is_open none =
          not-true (matched question before) (alike is_open ∙ not_from_false (matched question after) none)

      open_true : (one every some : Bool) → every ≡ true → some ≡ false → (one || (every && not some)) ≡ true
      open_true true every some e m = refl
      open_true false every some e m = rw (e, m) refl

      opened : everyone ≡ true → matched question before ≡ false → matched question after ≡ false
          → (allowed question now || (everyone && not (matched question now))) ≡ true
      opened is_open none_before none_after =
          open_true (allowed question now) everyone (matched question now) is_open
          (either_false (matched question now) (matched question before) (matched question after)
          (any_either (matching question) now before after either)
          none_before none_after)

module _ (now : Entries) (question : Question) (everyone : Bool) where
  closes : (few : Entries) → Whole few now → (everyone ≡ false) ⊎ (matched question few ≡ true)
      → (everyone ≡ false) ⊎ (matched question now ≡ true)
  closes few whole (inl never) = inl never
  closes few whole (inr some) = inr (any_over (matching question) few now (λ binding hit has. whole binding has) some)

  abbrev Refuses : Entries → Type 0
  Refuses entries =
      granted false (denied question entries) (allowed question entries) (everyone && not (matched question entries))
      ≡ false

  -- where all of one set is there, and no allow that it lacks
  no_over : (few : Entries) → Whole few now → Over Allow now few → Refuses few → Refuses now
  no_over few whole allows is =
      elim (cases_Bool (denied question few)) [
        | inl denies ↦
            denied_so (denied question now) (allowed question now) _
            (any_over (deny_hit question) few now (λ binding hit has. whole binding has) denies)
        | inr none ↦
            let (no_allow, closed) =
            refused_so (denied question few) (allowed question few) everyone (matched question few) none is in
            closed_so (denied question now) (allowed question now) everyone (matched question now)
            (over_false (allowed question now) (allowed question few)
            (any_over (allow_hit question) now few
            (λ binding hit has. allows binding (hits_with Allow question binding hit) has)) no_allow)
            (closes few whole closed)
      ]

  -- where the denies of both sets are there, and all of one
  no_between : (before after : Entries) → Over Deny before now → Over Deny after now
      → Whole before now ⊎ Whole after now
      → ((binding : Binding) → Has now binding → Has before binding ⊎ Has after binding)
      → Refuses before → Refuses after → Refuses now
  no_between before after first second whole either before_no after_no =
      elim (cases_Bool (denied question before)) [
        | inl denies ↦
            denied_so (denied question now) (allowed question now) _
            (any_over (deny_hit question) before now
            (λ binding hit has. first binding (hits_with Deny question binding hit) has) denies)
        | inr none ↦
            elim (cases_Bool (denied question after)) [
              | inl denies ↦
                  denied_so (denied question now) (allowed question now) _
                  (any_over (deny_hit question) after now
                  (λ binding hit has. second binding (hits_with Deny question binding hit) has) denies)
              | inr neither ↦
                  let (no_allow, closed) =
                  refused_so (denied question before) (allowed question before) everyone (matched question before)
                  none before_no in
                  let (no_other, closed_too) =
                  refused_so (denied question after) (allowed question after) everyone (matched question after)
                  neither after_no in
                  closed_so (denied question now) (allowed question now) everyone (matched question now)
                  (either_false (allowed question now) (allowed question before) (allowed question after)
                  (any_either (allow_hit question) now before after either) no_allow no_other)
                  (elim whole [
                    | inl kept ↦ closes before kept closed
                    | inr kept ↦ closes after kept closed_too
                  ])
            ]
      ]

  no_kept : (before after : Entries) → Stage before after now
      → ((binding : Binding) → Has now binding → Has before binding ⊎ Has after binding)
      → Refuses before → Refuses after → Refuses now
  no_kept before after (inl (whole, allows)) either first second = no_over before whole allows first
  no_kept before after (inr (inl (denies, (others, whole)))) either first second =
      no_between before after denies others whole either first second
  no_kept before after (inr (inr (whole, allows))) either first second = no_over after whole allows second

whole_of : (before after now : Entries) → Stage before after now → Whole before now ⊎ Whole after now
whole_of before after now (inl (whole, allows)) = inl whole
whole_of before after now (inr (inl (denies, (others, whole)))) = whole
whole_of before after now (inr (inr (whole, allows))) = inr whole

super_or : (super : Bool) (P : Bool → Type 0) → P true → (super ≡ false → P false) → P super
super_or true P yes_super plain = yes_super
super_or false P yes_super plain = plain refl

module _ (before after : Contents) (same : HaveSameSettings before after) where
  keeps_granted : (done left : List Step) (question : Question) → done ++ left ≡ steps before.entries after.entries
      → IsMatchedAlike before after question → is_yes before question ≡ true → is_yes after question ≡ true
      → is_yes (rules_after before done) question ≡ true
  keeps_granted done left question is alike first second =
      answer_after before done question ∙ yes_by (is_super before.supers question.principal)
      (sym (yes_is before question) ∙ first) (sym (answer_with before after question same) ∙ second)
    where
      yes_by : (super : Bool)
          → granted super (denied question before.entries) (allowed question before.entries)
          (before.everyone && not (matched question before.entries)) ≡ true
          → granted super (denied question after.entries) (allowed question after.entries)
          (before.everyone && not (matched question after.entries)) ≡ true
          → granted super (denied question (after_steps before.entries done))
          (allowed question (after_steps before.entries done))
          (before.everyone && not (matched question (after_steps before.entries done))) ≡ true
      yes_by true first second = refl
      yes_by false first second =
          yes_kept before.entries after.entries (after_steps before.entries done) question before.everyone
          (whole_of before.entries after.entries _ (stage_of before.entries after.entries done left is))
          (either before.entries after.entries done (part_sound before.entries after.entries done left is))
          alike first second

  keeps_refused : (done left : List Step) (question : Question) → done ++ left ≡ steps before.entries after.entries
      → is_yes before question ≡ false → is_yes after question ≡ false
      → is_yes (rules_after before done) question ≡ false
  keeps_refused done left question is first second =
      answer_after before done question ∙ no_by (is_super before.supers question.principal)
      (sym (yes_is before question) ∙ first) (sym (answer_with before after question same) ∙ second)
    where
      no_by : (super : Bool)
          → granted super (denied question before.entries) (allowed question before.entries)
          (before.everyone && not (matched question before.entries)) ≡ false
          → granted super (denied question after.entries) (allowed question after.entries)
          (before.everyone && not (matched question after.entries)) ≡ false
          → granted super (denied question (after_steps before.entries done))
          (allowed question (after_steps before.entries done))
          (before.everyone && not (matched question (after_steps before.entries done))) ≡ false
      no_by true first second = absurd cc
      no_by false first second =
          no_kept (after_steps before.entries done) question before.everyone before.entries after.entries
          (stage_of before.entries after.entries done left is)
          (either before.entries after.entries done (part_sound before.entries after.entries done left is))
          first second

same_when_both : (one other : Bool) → (one ≡ true → other ≡ true) → (other ≡ true → one ≡ true) → one ≡ other
same_when_both true other to from = sym (to refl)
same_when_both false true to from = from refl
same_when_both false false to from = refl

module _ (before after : Entries) where
  all_done : Sound before after (steps before after)
  all_done = part_sound before after (steps before after) [] (append-nil (steps before after))

  -- nothing else is left
  leaves : (binding : Binding) → Has (after_steps before (steps before after)) binding → Has after binding
  leaves binding has =
      elim (cases_has after binding) [
        | inl there ↦ there
        | inr gone ↦
            elim (either before after (steps before after) all_done binding has) [
              | inl was ↦
                  absurd (goes before (steps before after) binding (in_removals binding was gone)
                  (λ adds. gone (adds_of_all before after binding adds).0) has)
              | inr there ↦ there
            ]
      ]
    where
      in_removals : (binding : Binding) → Has before binding → ¬ Has after binding
          → Contains (steps before after) (Remove binding)
      in_removals binding was gone =
          Contains-append_right (additions Deny before after) _ (Remove binding)
          (Contains-append_right (additions Allow before after) _ (Remove binding)
          (elim (cases_permission binding.permission) [
            | inl permits ↦
                Contains-append_right (removals Allow before after) (removals Deny before after) (Remove binding)
                (is_removal before after Deny binding (was, (permits, gone)))
            | inr permits ↦
                Contains-append_left (removals Allow before after) (removals Deny before after) (Remove binding)
                (is_removal before after Allow binding (was, (permits, gone)))
          ]))

  reaches_all : Whole after (after_steps before (steps before after))
  reaches_all =
      all_arrive before after (steps before after) all_done
      (λ step there. Contains-append_left (additions Deny before after) _ step there)
      (λ step there. Contains-append_right (additions Deny before after) _ step
      (Contains-append_left (additions Allow before after) _ step there))

  among_alike : (binding : Binding)
      → is_among (after_steps before (steps before after)) binding ≡ is_among after binding
  among_alike binding =
      same_when_both (is_among (after_steps before (steps before after)) binding) (is_among after binding)
      (λ is. has_among after binding (leaves binding (among_has _ binding is)))
      (λ is. has_among _ binding (reaches_all binding (among_has after binding is)))

leads_to : (before after : Contents) (binding : Binding)
    → is_among (rules_after before (steps before.entries after.entries)).entries binding
    ≡ is_among after.entries binding
unfolding rules_after
leads_to before after binding = among_alike before.entries after.entries binding

pub keep : (before after : Contents) → HaveSameSettings before after → KeepAnswers before after
keep before after same = record {
  granted = keeps_granted before after same;
  refused = keeps_refused before after same;
  leads = leads_to before after;
}
