-- The set that may go together.
use Rattle.std.proofs.Common.{Bool, Contains, List, [], ap, arith, cond, false, inl, inr, map, nat_lt, not, refl, subst, sym, true, ℕ, ◌+◌, ◌++◌, ◌<◌, ◌==◌, ◌||◌, ◌∙◌, ◌∷◌, ◌≡◌, ◌≤◌, ◌↔◌, ◌⊎◌}
use Rattle.std.proofs.lemmas.Bool.{both_ways, cases_Bool, eq-eqb, eqb-true}
use Rattle.std.proofs.lemmas.Bool.Decides.{nat_tests}
use Rattle.std.proofs.lemmas.List.Elements.{Contains-append_cases, Contains-append_right}
use Rattle.std.proofs.lemmas.List.Folds.{list_any-append}
use Rattle.std.specs.List.{AllByRecursion, filter, fold}
use Rattle.kob_names.specs.Binding.{Binding}
use Rattle.kob_authorizer.proofs.Entries.{at_head, each, kept_by_filter, of_each, rising_filter, was_kept}
use Rattle.kob_authorizer.specs.Decide.{Contents, IsRising}
use Rattle.kob_policy_review.proofs.Listing.{filter_alike}
use Rattle.kob_policy_review.proofs.Needing.{alike_without, changes_without}
use Rattle.kob_policy_review.proofs.Standing.{first_or_rest}
use Rattle.kob_policy_review.specs.Alike.{AnswerAlike, is_yes, without}
use Rattle.kob_policy_review.specs.Redundancy.{is_needed, is_outside}
use Rattle.kob_policy_review.specs.Removal.{ListsRemovable, is_among, left_for, removable_in, with_removable, without_all}
use Rattle.kob_policy_review.specs.Shadows.{serial_of_entry}

-- those that pass one test and then another
filter_both : {A : Type 0} (p q : A → Bool) (xs : List A)
    → filter p (filter q xs) ≡ filter (λ x. cond (q x) (p x) false) xs
filter_both p q [] = refl
filter_both p q (x ∷ xs) =
    elim (q x) as (λ b. filter p (cond b (x ∷ filter q xs) (filter q xs))
    ≡ cond (cond b (p x) false) (x ∷ filter (λ y. cond (q y) (p y) false) xs)
    (filter (λ y. cond (q y) (p y) false) xs)) [
      | true ↦ ap (λ ys. cond (p x) (x ∷ ys) ys) (filter_both p q xs)
      | false ↦ filter_both p q xs
    ]

module _ (rules : Contents) (rising : IsRising 1 rules.entries rules.next) where
  -- the set and one serial more
  one_more : (gone : List ℕ) (serial : ℕ)
      → without serial (without_all gone rules) ≡ without_all (gone ++ serial ∷ []) rules
  one_more gone serial =
      ap (λ (es : List (ℕ × Binding)). record rules { entries = es })
      (filter_both (λ (entry : ℕ × Binding). not (entry.0 == serial)) (is_outside (is_among gone)) rules.entries
      ∙ filter_alike _ _ rules.entries (λ (entry : ℕ × Binding).
      outside (is_among gone entry.0) entry.0
      ∙ ap not (sym (list_any-append (λ other. other == entry.0) gone (serial ∷ [])))))
    where
      outside : (before : Bool) (s : ℕ)
          → cond (not before) (not (s == serial)) false ≡ not (before || ((serial == s) || false))
      outside true s = refl
      outside false s =
          elim (cases_Bool (s == serial)) [
            | inl same ↦ rw (same, eq-eqb serial s (sym (eqb-true s serial same))) refl
            | inr other ↦
                elim (cases_Bool (serial == s)) [
                  | inl same ↦ absurd (both_ways _ other (eq-eqb s serial (sym (eqb-true serial s same))))
                  | inr apart ↦ rw (other, apart) refl
                ]
          ]

  left_rising : (gone : List ℕ) → IsRising 1 (without_all gone rules).entries (without_all gone rules).next
  left_rising gone = rising_filter (is_outside (is_among gone)) 1 rules.next rules.entries rising

  abbrev needs : List ℕ → ℕ × Binding → Bool
  needs gone entry = is_needed (without_all gone rules) entry.0

  stays : (gone : List ℕ) (entry : ℕ × Binding) → needs gone entry ≡ true → with_removable rules gone entry ≡ gone
  unfolding with_removable
  stays gone entry is = rw is refl

  goes : (gone : List ℕ) (entry : ℕ × Binding) → needs gone entry ≡ false
      → with_removable rules gone entry ≡ gone ++ entry.0 ∷ []
  unfolding with_removable
  goes gone entry is = rw is refl

  abbrev all_of : List ℕ → List (ℕ × Binding) → List ℕ
  all_of gone entries = fold (with_removable rules) gone entries

  abbrev Same : List ℕ → Type 0
  Same gone = AnswerAlike rules (without_all gone rules)

  same_step : (gone : List ℕ) (entry : ℕ × Binding) → Same gone → Same (with_removable rules gone entry)
  same_step gone entry so =
      elim (cases_Bool (needs gone entry)) [
        | inl needed ↦ subst Same (sym (stays gone entry needed)) so
        | inr free ↦
            subst Same (sym (goes gone entry free))
            (subst (λ (r : Contents). AnswerAlike rules r) (one_more gone entry.0)
            (λ question askable. so question askable
            ∙ alike_without (without_all gone rules) (left_rising gone) entry.0 free question askable))
      ]

  same_all : (gone : List ℕ) (entries : List (ℕ × Binding)) → Same gone → Same (all_of gone entries)
  same_all gone [] so = so
  same_all gone (entry ∷ rest) so = same_all (with_removable rules gone entry) rest (same_step gone entry so)

  nothing_gone : Same []
  nothing_gone question askable =
      ap (λ (es : List (ℕ × Binding)). is_yes (record rules { entries = es }) question) (sym (all_left rules.entries))
    where
      all_left : (es : List (ℕ × Binding)) → filter (is_outside (is_among [])) es ≡ es
      all_left [] = refl
      all_left (e ∷ es) = ap (λ xs. e ∷ xs) (all_left es)

  abbrev below : ℕ → ℕ → Bool
  below bound serial = nat_lt serial bound

  not_below : (bound serial : ℕ) → bound ≤ serial → below bound serial ≡ false
  not_below bound serial le = grind (arith, nat_tests)

  is_below : (bound serial : ℕ) → serial < bound → below bound serial ≡ true
  is_below bound serial lt = grind (arith, nat_tests)

  one_out : (bound : ℕ) (gone : List ℕ) (serial : ℕ) → bound ≤ serial
      → filter (below bound) (gone ++ serial ∷ []) ≡ filter (below bound) gone
  one_out bound [] serial le = rw (not_below bound serial le) refl
  one_out bound (first ∷ gone) serial le =
      ap (λ xs. cond (below bound first) (first ∷ xs) xs) (one_out bound gone serial le)

  step_out : (bound : ℕ) (gone : List ℕ) (entry : ℕ × Binding) → bound ≤ entry.0
      → filter (below bound) (with_removable rules gone entry) ≡ filter (below bound) gone
  step_out bound gone entry le =
      elim (cases_Bool (needs gone entry)) [
        | inl needed ↦ ap (filter (below bound)) (stays gone entry needed)
        | inr free ↦ ap (filter (below bound)) (goes gone entry free) ∙ one_out bound gone entry.0 le
      ]

  -- later entries add nothing below
  rest_out : (bound low high : ℕ) (gone : List ℕ) (entries : List (ℕ × Binding)) → bound ≤ low
      → IsRising low entries high
      → filter (below bound) (all_of gone entries) ≡ filter (below bound) gone
  rest_out bound low high gone [] le rises = refl
  rest_out bound low high gone (entry ∷ rest) le rises =
      rest_out bound (entry.0 + 1) high (with_removable rules gone entry) rest (omega (arith, le, rises.0)) rises.1
      ∙ step_out bound gone entry (omega (arith, le, rises.0))

  whole : (bound : ℕ) (gone : List ℕ) → AllByRecursion (λ serial. serial < bound) gone
      → filter (below bound) gone ≡ gone
  whole bound [] all = refl
  whole bound (first ∷ gone) all = rw (is_below bound first all.0) (ap (λ xs. first ∷ xs) (whole bound gone all.1))

  abbrev Exact : ℕ → List ℕ → Type 0
  Exact serial gone =
      Contains gone serial ↔ AnswerAlike (left_for serial gone rules) (without serial (left_for serial gone rules))

  at_turn : (low high : ℕ) (gone : List ℕ) (entry : ℕ × Binding) (rest : List (ℕ × Binding))
      → IsRising low (entry ∷ rest) high
      → AllByRecursion (λ serial. serial < low) gone → Exact entry.0 (all_of gone (entry ∷ rest))
  at_turn low high gone entry rest rises lower =
      let final : List ℕ = all_of gone (entry ∷ rest) in
      let before : filter (below entry.0) final ≡ gone =
      rest_out entry.0 (entry.0 + 1) high (with_removable rules gone entry) rest (omega arith) rises.1
      ∙ step_out entry.0 gone entry (omega arith)
      ∙ whole entry.0 gone (of_each (λ serial. serial < entry.0) gone (λ serial there.
      omega (arith, rises.0, each (λ s. s < low) gone serial lower there))) in
      let now : filter (below (entry.0 + 1)) final ≡ filter (below (entry.0 + 1)) (with_removable rules gone entry) =
      rest_out (entry.0 + 1) (entry.0 + 1) high (with_removable rules gone entry) rest (omega arith) rises.1 in
      let Alike : List ℕ → Type 0 = λ g. AnswerAlike (without_all g rules) (without entry.0 (without_all g rules)) in
      elim (cases_Bool (needs gone entry)) [
        | inl needed ↦ (
          (λ there.
              let in_step = kept_by_filter (below (entry.0 + 1)) final entry.0 there
              (is_below (entry.0 + 1) entry.0 (omega arith)) in
              let in_gone = (was_kept (below (entry.0 + 1)) gone entry.0
              (subst (λ g. Contains g entry.0) (now ∙ ap (filter (below (entry.0 + 1))) (stays gone entry needed))
              in_step)).0 in
              absurd (omega (arith, rises.0, each (λ s. s < low) gone entry.0 lower in_gone))),
          (λ alike. absurd (changes_without (without_all gone rules) (left_rising gone) entry.0 needed
              (subst Alike before alike))),
        )
        | inr free ↦ (
          (λ there. subst Alike (sym before)
              (alike_without (without_all gone rules) (left_rising gone) entry.0 free)),
          (λ alike.
              (was_kept (below (entry.0 + 1)) final entry.0
              (subst (λ g. Contains g entry.0) (sym (now ∙ ap (filter (below (entry.0 + 1))) (goes gone entry free)))
              (kept_by_filter (below (entry.0 + 1)) (gone ++ entry.0 ∷ []) entry.0
              (Contains-append_right gone (entry.0 ∷ []) entry.0 (at_head entry.0 []))
              (is_below (entry.0 + 1) entry.0 (omega arith))))).0),
        )
      ]

  added_one : (gone : List ℕ) (entry : ℕ × Binding) (serial : ℕ) → Contains (with_removable rules gone entry) serial
      → Contains gone serial ⊎ (entry.0 ≡ serial)
  added_one gone entry serial there =
      elim (cases_Bool (needs gone entry)) [
        | inl needed ↦ inl (subst (λ g. Contains g serial) (stays gone entry needed) there)
        | inr free ↦
            elim (Contains-append_cases gone (entry.0 ∷ []) serial
            (subst (λ g. Contains g serial) (goes gone entry free) there)) [
              | inl earlier ↦ inl earlier
              | inr last ↦
                  elim (first_or_rest entry.0 [] serial last) [
                    | inl is ↦ inr is
                    | inr none ↦ absurd (omega (arith, none.1))
                  ]
            ]
      ]

  lower_step : (low : ℕ) (gone : List ℕ) (entry : ℕ × Binding) → low ≤ entry.0
      → AllByRecursion (λ serial. serial < low) gone
      → AllByRecursion (λ serial. serial < entry.0 + 1) (with_removable rules gone entry)
  lower_step low gone entry le lower =
      of_each (λ serial. serial < entry.0 + 1) (with_removable rules gone entry) (λ serial there.
      elim (added_one gone entry serial there) [
        | inl earlier ↦ omega (arith, le, each (λ s. s < low) gone serial lower earlier)
        | inr is ↦ omega (arith, is)
      ])

  exact_all : (low high : ℕ) (gone : List ℕ) (entries : List (ℕ × Binding)) → IsRising low entries high
      → AllByRecursion (λ serial. serial < low) gone → (entry : ℕ × Binding) → Contains entries entry
      → Exact entry.0 (all_of gone entries)
  exact_all low high gone [] rises lower entry there = absurd (omega (arith, there.1))
  exact_all low high gone (first ∷ rest) rises lower entry there =
      elim (first_or_rest first rest entry there) [
        | inl same ↦
            subst (λ (e : ℕ × Binding). Exact e.0 (all_of gone (first ∷ rest))) same
            (at_turn low high gone first rest rises lower)
        | inr later ↦
            exact_all (first.0 + 1) high (with_removable rules gone first) rest rises.1
            (lower_step low gone first rises.0 lower) entry later
      ]

  from_them : (gone : List ℕ) (entries : List (ℕ × Binding)) (serial : ℕ) → Contains (all_of gone entries) serial
      → Contains gone serial ⊎ Contains (map serial_of_entry entries) serial
  from_them gone [] serial there = inl there
  from_them gone (entry ∷ rest) serial there =
      elim (from_them (with_removable rules gone entry) rest serial there) [
        | inr later ↦ inr (Contains-append_right (entry.0 ∷ []) (map serial_of_entry rest) serial later)
        | inl so_far ↦
            elim (added_one gone entry serial so_far) [
              | inl earlier ↦ inl earlier
              | inr is ↦
                  inr (subst (Contains (map serial_of_entry (entry ∷ rest))) is
                  (at_head entry.0 (map serial_of_entry rest)))
            ]
      ]

  lists_removable : ListsRemovable rules (removable_in rules)
  lists_removable = record {
    together = same_all [] rules.entries nothing_gone;
    exact = exact_all 1 rules.next [] rules.entries rising tt;
    only = λ serial there.
        elim (from_them [] rules.entries serial there) [
          | inl none ↦ absurd (omega (arith, none.1))
          | inr named ↦ named
        ];
  }

  pub lists_all : (gone : List ℕ) → gone ≡ removable_in rules → ListsRemovable rules gone
  lists_all gone is = subst (ListsRemovable rules) (sym is) lists_removable
