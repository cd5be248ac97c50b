-- When an answer changes without one binding: it is the only one that decides it.
use Rattle.std.proofs.Common.{Bool, Contains, List, Option, None, true, false, not, cond, map, sym, subst, ap, refl, arith, inl, inr, [], ◌∷◌, ◌&&◌, ◌||◌, ◌==◌, ◌≡◌, ◌≤◌, ◌<◌, ◌+◌, ◌∙◌, ℕ}
use Rattle.std.proofs.lemmas.Bool.{and_parts, cases_Bool, eqb-true, ne_eqb}
use Rattle.std.specs.List.{filter, list_any}
use Rattle.std.specs.Option.{option_to_list}
use Rattle.kob_names.proofs.SameBindings.{permission_decides}
use Rattle.kob_names.specs.Binding.{Binding}
use Rattle.kob_names.specs.declared.kinds.Operation.{Operation}
use Rattle.kob_names.specs.declared.kinds.Permission.TheVariants.{Allow, Deny}
use Rattle.kob_authorizer.proofs.Entries.{at_head, rising_filter, was_kept}
use Rattle.kob_authorizer.specs.Decide.{IsRising}
use Rattle.kob_policy_review.proofs.Deciding.{granted, some_of, yes_in}
use Rattle.kob_policy_review.proofs.Standing.{first_or_rest}
use Rattle.kob_policy_review.specs.Classes.{is_for, is_met}
use Rattle.kob_policy_review.specs.Needed.{closing, needed_to, only_one}

abbrev pub differs : Bool → Bool → Bool
differs one other = cond one (not other) other

pub differs_not : (b : Bool) → differs b b ≡ false
differs_not true = refl
differs_not false = refl

-- the entries but the one with this serial
abbrev pub left : ℕ → List (ℕ × Binding) → List (ℕ × Binding)
left serial entries = filter (λ (entry : ℕ × Binding). not (entry.0 == serial)) entries

-- filters go in either order
pub filter_swap : {A : Type 0} (p q : A → Bool) (xs : List A) → filter p (filter q xs) ≡ filter q (filter p xs)
filter_swap p q [] = refl
filter_swap p q (x ∷ xs) =
    let rest = filter_swap p q xs in
    elim (cases_Bool (p x)) [
      | inl yes_p ↦
          elim (cases_Bool (q x)) [
            | inl yes_q ↦ rw (yes_q, yes_p) (rw yes_q (ap (λ ys. x ∷ ys) rest))
            | inr no_q ↦ rw (no_q, yes_p) (rw no_q rest)
          ]
      | inr no_p ↦
          elim (cases_Bool (q x)) [
            | inl yes_q ↦ rw (yes_q, no_p) rest
            | inr no_q ↦ rw (no_q, no_p) rest
          ]
    ]

is_other : (serial one other : ℕ) → one < other → (one == serial) ≡ true → (other == serial) ≡ false
is_other serial one other less is = ne_eqb other serial (λ same. omega (arith, less, same, eqb-true one serial is))

-- of two entries one stays
some_left : (serial low high : ℕ) (x y : ℕ × Binding) (rest : List (ℕ × Binding)) → IsRising low (x ∷ (y ∷ rest)) high
    → some_of (left serial (x ∷ (y ∷ rest))) ≡ true
some_left serial low high x y rest rising =
    elim (cases_Bool (x.0 == serial)) [
      | inl gone ↦ rw (gone, is_other serial x.0 y.0 (omega (arith, rising.1.0)) gone) refl
      | inr stays ↦ rw stays refl
    ]

abbrev of_both : ℕ → List (ℕ × Binding) → List (ℕ × Binding) → Bool → Bool → Type 0
of_both serial denies allows opened opened' =
    differs (granted false (some_of denies) (some_of allows) opened)
    (granted false (some_of (left serial denies)) (some_of (left serial allows)) opened')
    ≡ list_any (λ s. s == serial) (option_to_list
    (only_one (map (λ (e : ℕ × Binding). e.0) denies) (map (λ (e : ℕ × Binding). e.0) allows)))

-- where bindings decide, at most one is needed
sole : (serial low high : ℕ) (denies allows : List (ℕ × Binding)) → IsRising low denies high
    → IsRising low allows high
    → ((deny allow : ℕ × Binding) (more more' : List (ℕ × Binding)) → denies ≡ deny ∷ more → allows ≡ allow ∷ more'
    → deny.0 ≡ allow.0 → ⊥) → of_both serial denies allows false false
sole serial low high [] [] denying allowing apart = refl
sole serial low high [] (allow ∷ []) denying allowing apart =
    elim (allow.0 == serial) as (λ b. differs true (not false && (some_of (cond (not b) (allow ∷ []) []) || false))
    ≡ (b || false)) [
      | true ↦ refl
      | false ↦ refl
    ]
sole serial low high [] (allow ∷ (other ∷ more)) denying allowing apart =
    rw (some_left serial low high allow other more allowing) refl
sole serial low high (deny ∷ []) [] denying allowing apart =
    elim (deny.0 == serial) as (λ b. differs false (not (some_of (cond (not b) (deny ∷ []) [])) && (false || false))
    ≡ false) [
      | true ↦ refl
      | false ↦ refl
    ]
sole serial low high (deny ∷ []) (allow ∷ more) denying allowing apart =
    elim (cases_Bool (deny.0 == serial)) [
      | inl gone ↦
          let stays : (allow.0 == serial) ≡ false =
          ne_eqb allow.0 serial (λ same.
          apart deny allow [] more refl refl (eqb-true deny.0 serial gone ∙ sym same)) in
          rw (gone, stays) refl
      | inr stays ↦ rw stays refl
    ]
sole serial low high (deny ∷ (other ∷ more)) [] denying allowing apart =
    rw (some_left serial low high deny other more denying) refl
sole serial low high (deny ∷ (other ∷ more)) (allow ∷ rest) denying allowing apart =
    rw (some_left serial low high deny other more denying) refl

-- an entry is met as a deny or as an allow, not as both
not_both : (host : Option (List ℕ)) (operation : Operation) (entry : ℕ × Binding)
    → is_met Deny host operation entry ≡ true → is_met Allow host operation entry ≡ true → ⊥
not_both host operation entry denies allows =
    let d = (permission_decides entry.1.permission Deny).0 (and_parts _ _ denies).0 in
    let a = (permission_decides entry.1.permission Allow).0 (and_parts _ _ allows).0 in
    let both : Deny ≡ Allow = sym d ∙ a in cc

serial_above : (low high : ℕ) (entries : List (ℕ × Binding)) (x : ℕ × Binding) → IsRising low entries high
    → Contains entries x → low ≤ x.0
serial_above low high [] x rising in_x = absurd (omega (arith, in_x.1))
serial_above low high (first ∷ rest) x rising in_x =
    elim (first_or_rest first rest x in_x) [
      | inl is ↦ omega (arith, rising.0, ap (λ (e : ℕ × Binding). e.0) is)
      | inr later ↦ omega (arith, rising.0, serial_above (first.0 + 1) high rest x rising.1 later)
    ]

-- entries with rising serials are equal where their serials are
pub one_of_serial : (low high : ℕ) (entries : List (ℕ × Binding)) (x y : ℕ × Binding) → IsRising low entries high
    → Contains entries x → Contains entries y → x.0 ≡ y.0 → x ≡ y
one_of_serial low high [] x y rising in_x in_y same = absurd (omega (arith, in_x.1))
one_of_serial low high (first ∷ rest) x y rising in_x in_y same =
    elim (first_or_rest first rest x in_x) [
      | inl is_x ↦
          elim (first_or_rest first rest y in_y) [
            | inl is_y ↦ sym is_x ∙ is_y
            | inr later ↦
                let above = serial_above (first.0 + 1) high rest y rising.1 later in
                absurd (omega (arith, above, same, ap (λ (e : ℕ × Binding). e.0) is_x))
          ]
      | inr later_x ↦
          elim (first_or_rest first rest y in_y) [
            | inl is_y ↦
                let above = serial_above (first.0 + 1) high rest x rising.1 later_x in
                absurd (omega (arith, above, same, ap (λ (e : ℕ × Binding). e.0) is_y))
            | inr later_y ↦ one_of_serial (first.0 + 1) high rest x y rising.1 later_x later_y same
          ]
    ]

module _ (serial low high : ℕ) (host : Option (List ℕ)) (operation : Operation) where
  -- what is needed among those that ask
  among : (asking : List (ℕ × Binding)) → IsRising low asking high
      → of_both serial (filter (is_met Deny host operation) asking) (filter (is_met Allow host operation) asking)
      false false
  among asking rising =
      sole serial low high (filter (is_met Deny host operation) asking) (filter (is_met Allow host operation) asking)
      (rising_filter (is_met Deny host operation) low high asking rising)
      (rising_filter (is_met Allow host operation) low high asking rising)
      (λ deny allow more more' is_deny is_allow same.
      let d = was_kept (is_met Deny host operation) asking deny
      (subst (λ xs. Contains xs deny) (sym is_deny) (at_head deny more)) in
      let a = was_kept (is_met Allow host operation) asking allow
      (subst (λ xs. Contains xs allow) (sym is_allow) (at_head allow more')) in
      let is : deny ≡ allow = one_of_serial low high asking deny allow rising d.0 a.0 same in
      not_both host operation allow (subst (λ e. is_met Deny host operation e ≡ true) is d.1) a.1)

  abbrev Told : Bool → List (ℕ × Binding) → Option (List ℕ) → Type 0
  Told everyone matching principal =
      differs (yes_in false everyone matching principal host operation)
      (yes_in false everyone (left serial matching) principal host operation)
      ≡ list_any (λ s. s == serial)
      (needed_to (closing everyone matching) (filter (is_for principal) matching) host operation)

  -- the one binding that matches, where all is else open
  closes : (entry : ℕ × Binding) (principal : Option (List ℕ)) → Told true (entry ∷ []) principal
  unfolding needed_to
  closes entry principal =
      elim (cases_Bool (entry.0 == serial)) [
        | inl gone ↦
            elim (cases_Bool (is_for principal entry)) [
              | inl asks ↦
                  elim (cases_Bool (is_met Allow host operation entry)) [
                    | inl allows ↦
                        elim (cases_Bool (is_met Deny host operation entry)) [
                          | inl denies ↦ absurd (not_both host operation entry denies allows)
                          | inr plain ↦ simp (gone, asks, allows, plain)
                        ]
                    | inr plain ↦
                        elim (cases_Bool (is_met Deny host operation entry)) [
                          | inl denies ↦ simp (gone, asks, plain, denies)
                          | inr none ↦ simp (gone, asks, plain, none)
                        ]
                  ]
              | inr other ↦ simp (gone, other)
            ]
        | inr stays ↦
            elim (cases_Bool (is_for principal entry)) [
              | inl asks ↦
                  elim (cases_Bool (is_met Allow host operation entry)) [
                    | inl allows ↦
                        elim (cases_Bool (is_met Deny host operation entry)) [
                          | inl denies ↦ absurd (not_both host operation entry denies allows)
                          | inr plain ↦ simp (stays, asks, allows, plain)
                        ]
                    | inr plain ↦
                        elim (cases_Bool (is_met Deny host operation entry)) [
                          | inl denies ↦ simp (stays, asks, plain, denies)
                          | inr none ↦ simp (stays, asks, plain, none)
                        ]
                  ]
              | inr other ↦ simp (stays, other)
            ]
      ]

  -- where it is not alone, only what asks counts
  decided : (everyone opened : Bool) (matching : List (ℕ × Binding)) (principal : Option (List ℕ))
      → IsRising low matching high
      → (everyone && not (some_of matching)) ≡ false → (everyone && not (some_of (left serial matching))) ≡ false
      → closing everyone matching ≡ None → Told everyone matching principal
  unfolding needed_to
  decided everyone opened matching principal rising shut shut' none =
      let asking : List (ℕ × Binding) = filter (is_for principal) matching in
      let swap = filter_swap (is_for principal) (λ (entry : ℕ × Binding). not (entry.0 == serial)) matching in
      rw (
        shut,
        shut',
        none,
        swap,
        filter_swap (is_met Deny host operation) (λ (entry : ℕ × Binding). not (entry.0 == serial)) asking,
        filter_swap (is_met Allow host operation) (λ (entry : ℕ × Binding). not (entry.0 == serial)) asking,
      )
      (among asking (rising_filter (is_for principal) low high matching rising))

  nothing_told : (principal : Option (List ℕ)) → Told true [] principal
  unfolding needed_to
  nothing_told principal = refl

  -- an answer changes without a binding exactly where that is needed for it
  pub told : (everyone : Bool) (matching : List (ℕ × Binding)) (principal : Option (List ℕ))
      → IsRising low matching high
      → Told everyone matching principal
  told false matching principal rising = decided false false matching principal rising refl refl refl
  told true [] principal rising = nothing_told principal
  told true (entry ∷ []) principal rising = closes entry principal
  told true (entry ∷ (other ∷ more)) principal rising =
      decided true false (entry ∷ (other ∷ more)) principal rising refl
      (ap not (some_left serial low high entry other more rising)) refl
