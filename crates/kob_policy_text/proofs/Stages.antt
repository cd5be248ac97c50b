-- How far the commands that lead to other bindings have come.
use Rattle.std.proofs.Common.{◌≡◌, ◌⊎◌, ◌∙◌, ◌∷◌, ◌++◌, ℕ, Contains, List, [], true, false, sym, subst, ap, refl, arith, inl, inr}
use Rattle.std.proofs.lemmas.Bool.{and_from, and_parts, both_ways, cases_Bool, false_from_ne_true, not_from_false, not-true}
use Rattle.std.proofs.lemmas.List.Elements.{Contains-append_cases, Contains-append_left, Contains-append_right}
use Rattle.kob_names.proofs.SameBindings.{permission_decides}
use Rattle.kob_names.specs.Binding.{Binding}
use Rattle.kob_names.specs.declared.kinds.Permission.{Permission}
use Rattle.kob_names.specs.declared.kinds.Permission.TheVariants.{Allow, Deny}
use Rattle.kob_authorizer.proofs.Entries.{at_head}
use Rattle.kob_policy_review.proofs.Changing.{from_flat, in_flat}
use Rattle.kob_policy_review.proofs.Standing.{first_or_rest}
use Rattle.kob_policy_text.specs.Steps.{additions, is_among, is_only, removals, step_on, steps}
use Rattle.kob_policy_text.specs.declared.commands.Step.{Step}
use Rattle.kob_policy_text.specs.declared.commands.Step.TheVariants.{Add, Remove}
use Rattle.kob_policy_text.proofs.Doing.{Entries, Has, among_has, has_among, cases_has, parted, after_steps, later, from_either, stays, comes, goes}

-- What the commands are.

passes_as : (permission : Permission) (others : Entries) (entry : ℕ × Binding) (binding : Binding)
    → entry.1 ≡ binding → is_only permission others entry ≡ true
    → (binding.permission ≡ permission) × ¬ Has others binding
passes_as permission others entry binding is passes =
    let (permits, apart) = and_parts _ _ passes in (
      sym (ap (λ (b : Binding). b.permission) is) ∙ (permission_decides entry.1.permission permission).0 permits,
      λ has. both_ways (is_among others entry.1) (not-true _ apart)
          (has_among others entry.1 (subst (Has others) (sym is) has)),
    )

only_passes : (permission : Permission) (others : Entries) (entry : ℕ × Binding) (binding : Binding)
    → entry.1 ≡ binding → binding.permission ≡ permission → ¬ Has others binding
    → is_only permission others entry ≡ true
only_passes permission others entry binding is permits apart =
    and_from _ _
    ((permission_decides entry.1.permission permission).1 (ap (λ (b : Binding). b.permission) is ∙ permits))
    (not_from_false _ (false_from_ne_true (is_among others entry.1)
    (λ among. apart (subst (Has others) is (among_has others entry.1 among)))))

step_is : (one other : Binding) → Add one ≡ Add other → one ≡ other
step_is one other same = cc

gone_is : (one other : Binding) → Remove one ≡ Remove other → one ≡ other
gone_is one other same = cc

module _ (before after : Entries) where
  -- an addition is of a binding that only the second has
  abbrev Comes : Permission → Binding → Type 0
  Comes permission binding = Has after binding × ((binding.permission ≡ permission) × ¬ Has before binding)

  abbrev Goes : Permission → Binding → Type 0
  Goes permission binding = Has before binding × ((binding.permission ≡ permission) × ¬ Has after binding)

  addition_is : (permission : Permission) (binding : Binding)
      → Contains (additions permission before after) (Add binding)
      → Comes permission binding
  unfolding additions step_on
  addition_is permission binding there =
      let (entry, (in_after, adds)) = from_flat (step_on true permission before) after (Add binding) there in
      go entry in_after (cases_Bool (is_only permission before entry)) adds
    where
      go : (entry : ℕ × Binding) → Contains after entry
          → (is_only permission before entry ≡ true) ⊎ (is_only permission before entry ≡ false)
          → Contains (step_on true permission before entry) (Add binding) → Comes permission binding
      go entry in_after (inl passes) adds =
          elim (first_or_rest (Add entry.1) [] (Add binding) (rw passes at adds)) [
            | inl same ↦ (
              (entry, (in_after, step_is entry.1 binding same)),
              passes_as permission before entry binding (step_is entry.1 binding same) passes,
            )
            | inr nothing ↦ absurd (omega (arith, nothing.1))
          ]
      go entry in_after (inr fails) adds =
          let nothing : Contains [] (Add binding) = rw fails at adds in absurd (omega (arith, nothing.1))

  is_addition : (permission : Permission) (binding : Binding) → Comes permission binding
      → Contains (additions permission before after) (Add binding)
  unfolding additions step_on
  is_addition permission binding ((entry, (there, is)), (permits, apart)) =
      in_flat (step_on true permission before) after entry (Add binding) there
      (rw (only_passes permission before entry binding is permits apart)
      (subst (λ (b : Binding). Contains (Add entry.1 ∷ []) (Add b)) is (at_head (Add entry.1) [])))

  no_removal : (permission : Permission) (binding : Binding)
      → ¬ Contains (additions permission before after) (Remove binding)
  unfolding additions step_on
  no_removal permission binding there =
      let (entry, (in_after, adds)) = from_flat (step_on true permission before) after (Remove binding) there in
      go entry (cases_Bool (is_only permission before entry)) adds
    where
      go : (entry : ℕ × Binding)
          → (is_only permission before entry ≡ true) ⊎ (is_only permission before entry ≡ false)
          → Contains (step_on true permission before entry) (Remove binding) → ⊥
      go entry (inl passes) adds =
          elim (first_or_rest (Add entry.1) [] (Remove binding) (rw passes at adds)) [
            | inl same ↦ cc
            | inr nothing ↦ omega (arith, nothing.1)
          ]
      go entry (inr fails) adds =
          let nothing : Contains [] (Remove binding) = rw fails at adds in omega (arith, nothing.1)

  removal_is : (permission : Permission) (binding : Binding)
      → Contains (removals permission before after) (Remove binding)
      → Goes permission binding
  unfolding removals step_on
  removal_is permission binding there =
      let (entry, (in_before, removes)) = from_flat (step_on false permission after) before (Remove binding) there in
      go entry in_before (cases_Bool (is_only permission after entry)) removes
    where
      go : (entry : ℕ × Binding) → Contains before entry
          → (is_only permission after entry ≡ true) ⊎ (is_only permission after entry ≡ false)
          → Contains (step_on false permission after entry) (Remove binding) → Goes permission binding
      go entry in_before (inl passes) removes =
          elim (first_or_rest (Remove entry.1) [] (Remove binding) (rw passes at removes)) [
            | inl same ↦ (
              (entry, (in_before, gone_is entry.1 binding same)),
              passes_as permission after entry binding (gone_is entry.1 binding same) passes,
            )
            | inr nothing ↦ absurd (omega (arith, nothing.1))
          ]
      go entry in_before (inr fails) removes =
          let nothing : Contains [] (Remove binding) = rw fails at removes in absurd (omega (arith, nothing.1))

  pub is_removal : (permission : Permission) (binding : Binding) → Goes permission binding
      → Contains (removals permission before after) (Remove binding)
  unfolding removals step_on
  is_removal permission binding ((entry, (there, is)), (permits, apart)) =
      in_flat (step_on false permission after) before entry (Remove binding) there
      (rw (only_passes permission after entry binding is permits apart)
      (subst (λ (b : Binding). Contains (Remove entry.1 ∷ []) (Remove b)) is (at_head (Remove entry.1) [])))

  no_addition : (permission : Permission) (binding : Binding)
      → ¬ Contains (removals permission before after) (Add binding)
  unfolding removals step_on
  no_addition permission binding there =
      let (entry, (in_before, removes)) = from_flat (step_on false permission after) before (Add binding) there in
      go entry (cases_Bool (is_only permission after entry)) removes
    where
      go : (entry : ℕ × Binding) → (is_only permission after entry ≡ true) ⊎ (is_only permission after entry ≡ false)
          → Contains (step_on false permission after entry) (Add binding) → ⊥
      go entry (inl passes) removes =
          elim (first_or_rest (Remove entry.1) [] (Add binding) (rw passes at removes)) [
            | inl same ↦ cc
            | inr nothing ↦ omega (arith, nothing.1)
          ]
      go entry (inr fails) removes =
          let nothing : Contains [] (Add binding) = rw fails at removes in omega (arith, nothing.1)

-- How far the commands have come.

abbrev pub Over : Permission → Entries → Entries → Type 0
Over permission few many = (binding : Binding) → binding.permission ≡ permission → Has few binding → Has many binding

abbrev pub Whole : Entries → Entries → Type 0
Whole few many = (binding : Binding) → Has few binding → Has many binding

-- bindings are added to the first; or the denies of both are there; or some are left over the second
abbrev pub Stage : Entries → Entries → Entries → Type 0
Stage before after now =
    (Whole before now × Over Allow now before)
    ⊎ ((Over Deny before now × (Over Deny after now × (Whole before now ⊎ Whole after now)))
    ⊎ (Whole after now × Over Allow now after))

pub cases_permission : (permission : Permission) → (permission ≡ Deny) ⊎ (permission ≡ Allow)
cases_permission Deny = inl refl
cases_permission Allow = inr refl

abbrev Within : List Step → List Step → Type 0
Within few many = (step : Step) → Contains few step → Contains many step

module _ (before after : Entries) (done : List Step) where
  pub record Sound : Type 0 where
    adds : (binding : Binding) → Contains done (Add binding) → Has after binding × ¬ Has before binding
    removes : (binding : Binding) → Contains done (Remove binding) → Has before binding × ¬ Has after binding

  all_stay : ((binding : Binding) → ¬ Contains done (Remove binding)) → Whole before (after_steps before done)
  all_stay none binding has = stays before done binding has (none binding)

  module _ (sound : Sound) where
    pub either : (binding : Binding) → Has (after_steps before done) binding → Has before binding ⊎ Has after binding
    either binding has =
        elim (from_either before done binding has) [
          | inl was ↦ inl was
          | inr adds ↦ inr (sound.adds binding adds).0
        ]

    -- what the second has is there where its additions are done
    arrives : (binding : Binding) → (¬ Has before binding → Contains done (Add binding)) → Has after binding
        → Has (after_steps before done) binding
    arrives binding comes_in has =
        elim (cases_has before binding) [
          | inl was ↦ stays before done binding was (λ removes. (sound.removes binding removes).1 has)
          | inr new ↦ comes before done binding (comes_in new) (λ removes. new (sound.removes binding removes).0)
        ]

    denies_arrive : Within (additions Deny before after) done → Over Deny after (after_steps before done)
    denies_arrive within binding permits has =
        arrives binding (λ new. within (Add binding) (is_addition before after Deny binding (has, (permits, new))))
        has

    pub all_arrive : Within (additions Deny before after) done → Within (additions Allow before after) done
        → Whole after (after_steps before done)
    all_arrive denies allows binding has =
        elim (cases_permission binding.permission) [
          | inl permits ↦ denies_arrive denies binding permits has
          | inr permits ↦
              arrives binding
              (λ new. allows (Add binding) (is_addition before after Allow binding (has, (permits, new)))) has
        ]

    -- allows that the second lacks are gone where their removals are done
    allows_go : Within (removals Allow before after) done → Over Allow (after_steps before done) after
    allows_go within binding permits has =
        elim (cases_has after binding) [
          | inl there ↦ there
          | inr gone ↦
              elim (either binding has) [
                | inl was ↦
                    absurd (goes before done binding
                    (within (Remove binding) (is_removal before after Allow binding (was, (permits, gone))))
                    (λ adds. gone (sound.adds binding adds).0) has)
                | inr there ↦ there
              ]
        ]

  denies_stay : ((binding : Binding) → Contains done (Remove binding) → binding.permission ≡ Allow)
      → Over Deny before (after_steps before done)
  denies_stay allows binding permits has =
      stays before done binding has (λ removes. apart (sym permits ∙ allows binding removes))
    where
      apart : Deny ≡ Allow → ⊥
      apart is = cc

  allows_stay : ((binding : Binding) → Contains done (Add binding) → binding.permission ≡ Deny)
      → Over Allow (after_steps before done) before
  allows_stay denies binding permits has =
      elim (from_either before done binding has) [
        | inl was ↦ was
        | inr adds ↦ absurd (apart (sym permits ∙ denies binding adds))
      ]
    where
      apart : Allow ≡ Deny → ⊥
      apart is = cc

-- a part of the commands is sound
module _ (before after : Entries) where
  pub adds_of_all : (binding : Binding) → Contains (steps before after) (Add binding)
      → Has after binding × ¬ Has before binding
  adds_of_all binding there =
      elim (Contains-append_cases (additions Deny before after) _ (Add binding) there) [
        | inl denies ↦ let (has, (permits, new)) = addition_is before after Deny binding denies in (has, new)
        | inr rest ↦
            elim (Contains-append_cases (additions Allow before after) _ (Add binding) rest) [
              | inl allows ↦ let (has, (permits, new)) = addition_is before after Allow binding allows in (has, new)
              | inr removals_left ↦
                  elim (Contains-append_cases (removals Allow before after) _ (Add binding) removals_left) [
                    | inl allows ↦ absurd (no_addition before after Allow binding allows)
                    | inr denies ↦ absurd (no_addition before after Deny binding denies)
                  ]
            ]
      ]

  removes_of_all : (binding : Binding) → Contains (steps before after) (Remove binding)
      → Has before binding × ¬ Has after binding
  removes_of_all binding there =
      elim (Contains-append_cases (additions Deny before after) _ (Remove binding) there) [
        | inl denies ↦ absurd (no_removal before after Deny binding denies)
        | inr rest ↦
            elim (Contains-append_cases (additions Allow before after) _ (Remove binding) rest) [
              | inl allows ↦ absurd (no_removal before after Allow binding allows)
              | inr removals_left ↦
                  elim (Contains-append_cases (removals Allow before after) _ (Remove binding) removals_left) [
                    | inl allows ↦ let (has, (permits, gone)) = removal_is before after Allow binding allows in
                        (has, gone)
                    | inr denies ↦ let (has, (permits, gone)) = removal_is before after Deny binding denies in
                        (has, gone)
                  ]
            ]
      ]

  pub part_sound : (done left : List Step) → done ++ left ≡ steps before after → Sound before after done
  part_sound done left is = record {
    adds = λ binding there. adds_of_all binding
        (subst (λ (all : List Step). Contains all (Add binding)) is
        (Contains-append_left done left (Add binding) there));
    removes = λ binding there. removes_of_all binding
        (subst (λ (all : List Step). Contains all (Remove binding)) is
        (Contains-append_left done left (Remove binding) there));
  }

  -- while only denies were added
  first_stage : (done more : List Step) → done ++ more ≡ additions Deny before after
      → Stage before after (after_steps before done)
  first_stage done more is =
      let within : Within done (additions Deny before after) =
      λ step there. subst (λ (all : List Step). Contains all step) is (Contains-append_left done more step there) in
      inl (
        all_stay before after done
            (λ binding there. no_removal before after Deny binding (within (Remove binding) there)),
        allows_stay before after done
            (λ binding there. (addition_is before after Deny binding (within (Add binding) there)).1.0),
      )

  -- while allows are added
  second_stage : (done part more : List Step) → Sound before after done → done ≡ additions Deny before after ++ part
      → part ++ more ≡ additions Allow before after → Stage before after (after_steps before done)
  second_stage done part more sound is rest =
      let none : (binding : Binding) → ¬ Contains done (Remove binding) =
      λ binding there.
      elim (Contains-append_cases (additions Deny before after) part (Remove binding)
      (subst (λ (all : List Step). Contains all (Remove binding)) is there)) [
        | inl denies ↦ no_removal before after Deny binding denies
        | inr allows ↦
            no_removal before after Allow binding
            (subst (λ (all : List Step). Contains all (Remove binding)) rest
            (Contains-append_left part more (Remove binding) allows))
      ] in
      let within : Within (additions Deny before after) done =
      λ step there. subst (λ (all : List Step). Contains all step) (sym is)
      (Contains-append_left (additions Deny before after) part step there) in
      inr (inl (
        (λ binding permits has. stays before done binding has (none binding)),
        (denies_arrive before after done sound within, inl (all_stay before after done none)),
      ))

  -- while allows are removed
  third_stage : (done part more : List Step) → Sound before after done
      → done ≡ additions Deny before after ++ (additions Allow before after ++ part)
      → part ++ more ≡ removals Allow before after → Stage before after (after_steps before done)
  third_stage done part more sound is rest =
      let removes_allows : (binding : Binding) → Contains done (Remove binding) → binding.permission ≡ Allow =
      λ binding there.
      elim (Contains-append_cases (additions Deny before after) _ (Remove binding)
      (subst (λ (all : List Step). Contains all (Remove binding)) is there)) [
        | inl denies ↦ absurd (no_removal before after Deny binding denies)
        | inr later ↦
            elim (Contains-append_cases (additions Allow before after) part (Remove binding) later) [
              | inl allows ↦ absurd (no_removal before after Allow binding allows)
              | inr gone ↦
                  (removal_is before after Allow binding
                  (subst (λ (all : List Step). Contains all (Remove binding)) rest
                  (Contains-append_left part more (Remove binding) gone))).1.0
            ]
      ] in
      let denies : Within (additions Deny before after) done =
      λ step there. subst (λ (all : List Step). Contains all step) (sym is)
      (Contains-append_left (additions Deny before after) _ step there) in
      let allows : Within (additions Allow before after) done =
      λ step there. subst (λ (all : List Step). Contains all step) (sym is)
      (Contains-append_right (additions Deny before after) _ step
      (Contains-append_left (additions Allow before after) part step there)) in
      inr (inl (
        denies_stay before after done removes_allows,
        (denies_arrive before after done sound denies, inr (all_arrive before after done sound denies allows)),
      ))

  -- while denies are removed
  last_stage : (done part : List Step) → Sound before after done
      → done ≡ additions Deny before after ++ (additions Allow before after ++ (removals Allow before after ++ part))
      → Stage before after (after_steps before done)
  last_stage done part sound is =
      let denies : Within (additions Deny before after) done =
      λ step there. subst (λ (all : List Step). Contains all step) (sym is)
      (Contains-append_left (additions Deny before after) _ step there) in
      let allows : Within (additions Allow before after) done =
      λ step there. subst (λ (all : List Step). Contains all step) (sym is)
      (Contains-append_right (additions Deny before after) _ step
      (Contains-append_left (additions Allow before after) _ step there)) in
      let gone : Within (removals Allow before after) done =
      λ step there. subst (λ (all : List Step). Contains all step) (sym is)
      (Contains-append_right (additions Deny before after) _ step
      (Contains-append_right (additions Allow before after) _ step
      (Contains-append_left (removals Allow before after) part step there))) in
      inr (inr (all_arrive before after done sound denies allows, allows_go before after done sound gone))

  pub stage_of : (done left : List Step) → done ++ left ≡ steps before after
      → Stage before after (after_steps before done)
  stage_of done left is =
      let sound = part_sound done left is in
      elim (parted done left (additions Deny before after) _ is) [
        | inl (more, part) ↦ first_stage done more part
        | inr (second, (begins, rest)) ↦
            elim (parted second left (additions Allow before after) _ rest) [
              | inl (more, part) ↦ second_stage done second more sound begins part
              | inr (third, (goes_on, rest)) ↦
                  elim (parted third left (removals Allow before after) _ rest) [
                    | inl (more, part) ↦
                        third_stage done third more sound
                        (begins ∙ ap (λ (xs : List Step). additions Deny before after ++ xs) goes_on) part
                    | inr (last, (ends, rest)) ↦
                        last_stage done last sound
                        (begins ∙ ap (λ (xs : List Step). additions Deny before after ++ xs)
                        (goes_on ∙ ap (λ (xs : List Step). additions Allow before after ++ xs) ends))
                  ]
            ]
      ]
