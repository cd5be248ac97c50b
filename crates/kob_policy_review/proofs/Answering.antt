-- The answers on some names are the decisions on every question there.
use Rattle.std.proofs.Common.{Bool, Contains, List, Option, true, false, not, cond, codes, map, sym, subst, ap, refl, arith, inl, inr, [], ◌∷◌, ◌&&◌, ◌≡◌, ◌∙◌, ℕ, sum}
use Rattle.std.proofs.lemmas.Bool.{cases_Bool}
use Rattle.std.proofs.lemmas.List.Elements.{Contains-append_right}
use Rattle.std.specs.List.{filter, flat_map, list_any}
use Rattle.kob_names.specs.Binding.{Binding}
use Rattle.kob_names.specs.declared.kinds.Operation.{Operation}
use Rattle.kob_names.specs.declared.kinds.Permission.{Permission}
use Rattle.kob_names.specs.declared.kinds.Permission.TheVariants.{Allow, Deny}
use Rattle.kob_authorizer.proofs.Entries.{among_mapped, at_head, first_serial_found, given_by, kept_by_filter}
use Rattle.kob_authorizer.specs.Decide.{Contents, Question, decide, first_serial, is_hit, is_match, is_super, unless_open, verdict_of}
use Rattle.kob_policy_review.proofs.Changing.{from_flat, in_flat, some_same, speaks}
use Rattle.kob_policy_review.proofs.Deciding.{Stands, any_some, hit_is}
use Rattle.kob_policy_review.proofs.Marks.{in_sum, stands_marked, super_marked}
use Rattle.kob_policy_review.proofs.Needing.{plain_party}
use Rattle.kob_policy_review.proofs.Standing.{any_alike, covers_same, hosts_are, party_for, party_there, principals_are}
use Rattle.kob_policy_review.specs.Alike.{hosts_of, principals_of, spare, weight}
use Rattle.kob_policy_review.specs.Classes.{hosts_named, is_for, is_met, is_on, principals_named, representative}
use Rattle.kob_policy_review.specs.Difference.{SpeaksOf, class_of, some_in}
use Rattle.kob_policy_review.specs.Granting.{IsOnTarget, ListsAnswers, answer_at, answers_by, answers_on, first_met, is_open_on, verdict_by}
use Rattle.kob_policy_review.specs.Needed.{is_super_party}
use Rattle.kob_policy_review.specs.declared.class.Target.{Target}
use Rattle.kob_policy_review.specs.declared.granting.Answer.{Answer}

module _ {A : Type 0} where
  -- filters by tests that agree on the elements keep the same
  pub filter_in : (p q : A → Bool) (xs : List A) → ((x : A) → Contains xs x → p x ≡ q x) → filter p xs ≡ filter q xs
  filter_in p q [] same = refl
  filter_in p q (x ∷ xs) same =
      ap (λ b. cond b (x ∷ filter p xs) (filter p xs)) (same x (at_head x xs))
      ∙ ap (λ ys. cond (q x) (x ∷ ys) ys)
      (filter_in p q xs (λ y there. same y (Contains-append_right (x ∷ []) xs y there)))

  filter_both : (p q : A → Bool) (xs : List A) → filter (λ x. p x && q x) xs ≡ filter q (filter p xs)
  filter_both p q [] = refl
  filter_both p q (x ∷ xs) =
      elim (p x) as (λ b. cond (b && q x) (x ∷ filter (λ y. p y && q y) xs) (filter (λ y. p y && q y) xs)
      ≡ filter q (cond b (x ∷ filter p xs) (filter p xs))) [
        | true ↦ ap (λ ys. cond (q x) (x ∷ ys) ys) (filter_both p q xs)
        | false ↦ filter_both p q xs
      ]

verdict_same : (everyone super : Bool) (deny deny' allow allow' : Option ℕ) (found found' : Bool) → found ≡ found'
    → super ≡ false
    → deny ≡ deny' → allow ≡ allow'
    → unless_open (everyone && not found) (verdict_of super deny allow)
    ≡ verdict_by (everyone && not found') deny' allow'
verdict_same everyone super deny deny' allow allow' found found' f s d a = rw (f, s, d, a) refl

-- a decision is that of the class that stands for its question
decided_as : (rules : Contents) (question : Question) (target : Target) (principal host : Option (List ℕ))
    → Stands rules.entries question target principal host → is_super rules.supers question.principal ≡ false
    → decide rules question ≡ verdict_by (is_open_on rules target)
    (first_met Deny host question.operation (filter (is_for principal) (filter (is_on target) rules.entries)))
    (first_met Allow host question.operation (filter (is_for principal) (filter (is_on target) rules.entries)))
decided_as rules question target principal host stands plain =
    let hits : (permission : Permission) → first_serial (filter (is_hit permission question) rules.entries)
    ≡ first_met permission host question.operation (filter (is_for principal) (filter (is_on target) rules.entries)) =
    λ permission.
    ap first_serial (filter_in (is_hit permission question)
    (λ entry. is_on target entry && (is_for principal entry && is_met permission host question.operation entry))
    rules.entries (hit_is question target principal host rules.entries stands permission)
    ∙ filter_both (is_on target) (λ entry. is_for principal entry && is_met permission host question.operation entry)
    rules.entries
    ∙ filter_both (is_for principal) (is_met permission host question.operation)
    (filter (is_on target) rules.entries))
    ∙ first_serial_found (is_met permission host question.operation)
    (filter (is_for principal) (filter (is_on target) rules.entries)) in
    let matched : list_any (is_match question) rules.entries ≡ some_in (filter (is_on target) rules.entries) =
    any_alike (is_match question) (is_on target) rules.entries (λ entry there. sym (stands.on entry there))
    ∙ any_some (is_on target) rules.entries ∙ sym (some_same (filter (is_on target) rules.entries)) in
    verdict_same rules.everyone (is_super rules.supers question.principal) _ _ _ _ _ _ matched plain (hits Deny)
    (hits Allow)

module _ (rules : Contents) (operation : Operation) (target : Target) where
  abbrev matching : List (ℕ × Binding)
  matching = filter (is_on target) rules.entries

  abbrev asking : Option (List ℕ) → List (ℕ × Binding)
  asking principal = filter (is_for principal) matching

  by_list : (principal : Option (List ℕ)) → is_super_party rules.supers principal ≡ false
      → answers_by rules.supers (is_open_on rules target) matching operation principal
      ≡ map (answer_at (is_open_on rules target) (asking principal) operation principal)
      (hosts_named (asking principal))
  unfolding answers_by
  by_list principal plain = rw plain refl

  by_none : (principal : Option (List ℕ)) → is_super_party rules.supers principal ≡ true
      → answers_by rules.supers (is_open_on rules target) matching operation principal ≡ []
  unfolding answers_by
  by_none principal super = rw super refl

  on_list : answers_on rules operation target
      ≡ flat_map (answers_by rules.supers (is_open_on rules target) matching operation) (principals_named matching)
  unfolding answers_on
  on_list = refl

  answer_is : (principal host : Option (List ℕ))
      → answer_at (is_open_on rules target) (asking principal) operation principal host
      ≡ record {
        principal = principal;
        host = host;
        verdict = verdict_by (is_open_on rules target) (first_met Deny host operation (asking principal))
            (first_met Allow host operation (asking principal));
      }
  unfolding answer_at
  answer_is principal host = refl

  sound_at : (principal host : Option (List ℕ)) → is_super_party rules.supers principal ≡ false
      → decide rules (representative (spare rules) (class_of target principal host operation))
      ≡ (answer_at (is_open_on rules target) (asking principal) operation principal host).verdict
  sound_at principal host plain =
      decided_as rules (representative (spare rules) (class_of target principal host operation)) target principal host
      (stands_marked (spare rules) (class_of target principal host operation) rules.entries
      (λ entry there. omega (arith, in_sum weight rules.entries entry there)))
      (super_marked (spare rules) rules.supers principal
      (λ user there. omega (arith, in_sum sum rules.supers user there)) ∙ plain)
      ∙ sym (ap (λ (a : Answer). a.verdict) (answer_is principal host))

  sound_of : (answer : Answer) → Contains (answers_on rules operation target) answer
      → decide rules (representative (spare rules) (class_of target answer.principal answer.host operation))
      ≡ answer.verdict
  sound_of answer there =
      let (principal, (named, at_principal)) =
      from_flat (answers_by rules.supers (is_open_on rules target) matching operation)
      (principals_named matching) answer (subst (λ (as' : List Answer). Contains as' answer) on_list there) in
      elim (cases_Bool (is_super_party rules.supers principal)) [
        | inl super ↦
            let none = subst (λ (as' : List Answer). Contains as' answer) (by_none principal super) at_principal in
            absurd (omega (arith, none.1))
        | inr plain ↦
            let (host, (where_from, is)) =
            given_by (answer_at (is_open_on rules target) (asking principal) operation principal)
            (hosts_named (asking principal)) answer
            (subst (λ (as' : List Answer). Contains as' answer) (by_list principal plain) at_principal) in
            let parts = sym (answer_is principal host) ∙ is in
            let whom : principal ≡ answer.principal = ap (λ (a : Answer). a.principal) parts in
            let from : host ≡ answer.host = ap (λ (a : Answer). a.host) parts in
            subst (λ (p : Option (List ℕ)). decide rules
            (representative (spare rules) (class_of target p answer.host operation)) ≡ answer.verdict) whom
            (subst (λ (h : Option (List ℕ)). decide rules
            (representative (spare rules) (class_of target principal h operation)) ≡ answer.verdict) from
            (sound_at principal host plain ∙ ap (λ (a : Answer). a.verdict) is))
      ]

  told_of : (question : Question) → IsOnTarget rules target question → question.operation ≡ operation
      → is_super rules.supers question.principal ≡ false
      → (answer : Answer) × (Contains (answers_on rules operation target) answer
      × (SpeaksOf question.principal answer.principal
      × (SpeaksOf question.host answer.host × (answer.verdict ≡ decide rules question))))
  told_of question on same plain =
      let principal : Option (List ℕ) = party_for (principals_of matching) question.principal in
      let hosts : List (List ℕ) = hosts_of (asking principal) in
      let host : Option (List ℕ) = party_for hosts question.host in
      let stands : Stands rules.entries question target principal host = record {
        on = on.same;
        asks = λ entry there is_on_it.
            covers_same (codes "User:*") entry.1.principal question.principal (principals_of matching)
            (among_mapped (λ (e : ℕ × Binding). e.1.principal) matching entry
            (kept_by_filter (is_on target) rules.entries entry there is_on_it));
        from = λ entry there is_on_it asks.
            covers_same (codes "*") entry.1.host question.host hosts
            (among_mapped (λ (e : ℕ × Binding). e.1.host) (asking principal) entry
            (kept_by_filter (is_for principal) matching entry
            (kept_by_filter (is_on target) rules.entries entry there is_on_it) asks));
      } in
      let is = decided_as rules question target principal host stands plain in
      let answer : Answer = answer_at (is_open_on rules target) (asking principal) operation principal host in
      let no_super = plain_party rules.supers (principals_of matching) question.principal plain in
      let parts = answer_is principal host in
      let at_host : Contains (answers_by rules.supers (is_open_on rules target) matching operation principal) answer =
      subst (λ (as' : List Answer). Contains as' answer) (sym (by_list principal no_super))
      (among_mapped (answer_at (is_open_on rules target) (asking principal) operation principal)
      (hosts_named (asking principal)) host
      (subst (λ (ps : List (Option (List ℕ))). Contains ps host) (sym (hosts_are (asking principal)))
      (party_there hosts question.host))) in
      let there : Contains (answers_on rules operation target) answer =
      subst (λ (as' : List Answer). Contains as' answer) (sym on_list)
      (in_flat (answers_by rules.supers (is_open_on rules target) matching operation) (principals_named matching)
      principal answer
      (subst (λ (ps : List (Option (List ℕ))). Contains ps principal) (sym (principals_are matching))
      (party_there (principals_of matching) question.principal)) at_host) in (
        answer,
        (
          there,
          (
            subst (SpeaksOf question.principal) (sym (ap (λ (a : Answer). a.principal) parts))
                (speaks question.principal (principals_of matching)),
            (
              subst (SpeaksOf question.host) (sym (ap (λ (a : Answer). a.host) parts)) (speaks question.host hosts),
              ap (λ (a : Answer). a.verdict) parts
                  ∙ sym (is ∙ ap (λ (o : Operation).
                  verdict_by (is_open_on rules target) (first_met Deny host o (asking principal))
                  (first_met Allow host o (asking principal))) same),
            ),
          ),
        ),
      )

  pub lists_answers : (found : List Answer) → found ≡ answers_on rules operation target
      → ListsAnswers rules operation target found
  lists_answers found is = record {
    sound = λ answer there. sound_of answer (subst (λ (as' : List Answer). Contains as' answer) is there);
    complete = λ question on same plain.
        let (answer, (there, tells)) = told_of question on same plain in
        (answer, (subst (λ (as' : List Answer). Contains as' answer) (sym is) there, tells));
  }
