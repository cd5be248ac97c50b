-- The list of changes says what becomes of every answer.
use Rattle.std.proofs.Common.{codes, Bool, Contains, List, Option, Some, None, true, false, not, cond, sym, subst, ap, refl, arith, inl, inr, [], ◌∷◌, ◌++◌, ◌&&◌, ◌||◌, ◌≡◌, ◌≢◌, ◌<◌, ◌⊎◌, ◌∙◌, ℕ, sum}
use Rattle.std.proofs.lemmas.Bool.{both_ways, cases_Bool}
use Rattle.std.proofs.lemmas.List.Elements.{Contains-append_cases, Contains-append_left, Contains-append_right}
use Rattle.std.proofs.lemmas.List.Sums.{fold-append}
use Rattle.std.proofs.lemmas.Slice.Eq.{bytes_eq-Decides}
use Rattle.std.specs.List.{filter, flat_map, fold, list_any}
use Rattle.kob_names.specs.Binding.{Binding}
use Rattle.kob_names.specs.Same.{same_text}
use Rattle.kob_names.specs.declared.kinds.Operation.{Operation}
use Rattle.kob_names.specs.declared.kinds.ResourceKind.{ResourceKind}
use Rattle.kob_names.specs.declared.kinds.ResourceKind.TheVariants.{Topic, Group, Cluster, TransactionalId}
use Rattle.kob_names.specs.declared.kinds.Permission.TheVariants.{Allow, Deny}
use Rattle.kob_authorizer.proofs.Entries.{among_mapped, at_head, kept_by_filter}
use Rattle.kob_authorizer.specs.Decide.{Contents, Question, is_super}
use Rattle.kob_policy_review.proofs.Deciding.{Stands, answered_as, any_some, covers_text, some_of, yes_in}
use Rattle.kob_policy_review.proofs.Marks.{askable_marked, in_sum, stands_marked, super_marked}
use Rattle.kob_policy_review.proofs.Needing.{asked_there, plain_party}
use Rattle.kob_policy_review.proofs.Standing.{all_named, covers_same, first_or_rest, hosts_are, on_for, only_named, party_for, party_there, principals_are, target_for, target_there}
use Rattle.kob_policy_review.specs.Alike.{hosts_of, is_yes, mark_of, principals_of, weight}
use Rattle.kob_policy_review.specs.Classes.{covers_party, hosts_named, is_for, is_met, is_on, is_party, open_targets, operations, party_text, principals_named, representative, targets, targets_named, with_host, with_party, with_principal, with_target_of}
use Rattle.kob_policy_review.specs.Difference.{names_all, IsPlain, ListsChanges, Sides, SpeaksOf, Tells, asked_by, change_of, changes_by, changes_from, changes_of, changes_on, changes_to, class_of, hosts_in, is_listed, outcome, outcome_of, outcome_to, principals_in, same_outcome, sides_on, some_in, targets_in, yes_to}
use Rattle.kob_policy_review.specs.Needed.{is_super_party}
use Rattle.kob_policy_review.specs.declared.class.Class.{Class}
use Rattle.kob_policy_review.specs.declared.class.Target.{Target}
use Rattle.kob_policy_review.specs.declared.difference.Change.{Change}
use Rattle.kob_policy_review.specs.declared.difference.Outcome.{Outcome}
use Rattle.kob_policy_review.specs.declared.difference.Outcome.TheVariants.{Gained, Lost, Same}

-- Lists joined end to end.

module _ {A B : Type 0} (f : A → List B) where
  pub in_flat : (xs : List A) (x : A) (y : B) → Contains xs x → Contains (f x) y → Contains (flat_map f xs) y
  in_flat [] x y in_xs in_f = absurd (omega (arith, in_xs.1))
  in_flat (first ∷ rest) x y in_xs in_f =
      elim (first_or_rest first rest x in_xs) [
        | inl is ↦ Contains-append_left (f first) (flat_map f rest) y (subst (λ z. Contains (f z) y) (sym is) in_f)
        | inr later ↦ Contains-append_right (f first) (flat_map f rest) y (in_flat rest x y later in_f)
      ]

  pub from_flat : (xs : List A) (y : B) → Contains (flat_map f xs) y → (x : A) × (Contains xs x × Contains (f x) y)
  from_flat [] y there = absurd (omega (arith, there.1))
  from_flat (first ∷ rest) y there =
      elim (Contains-append_cases (f first) (flat_map f rest) y there) [
        | inl here ↦ (first, (at_head first rest, here))
        | inr later ↦
            let (x, (in_rest, in_f)) = from_flat rest y later in
            (x, (Contains-append_right (first ∷ []) rest x in_rest, in_f))
      ]

  flat_empty : (xs : List A) → ((x : A) → Contains xs x → f x ≡ []) → flat_map f xs ≡ []
  flat_empty [] none = refl
  flat_empty (first ∷ rest) none =
      rw (none first (at_head first rest))
      (flat_empty rest (λ x there. none x (Contains-append_right (first ∷ []) rest x there)))

-- Outcomes.

same_is : (one other : Outcome) → same_outcome one other ≡ true → one ≡ other
same_is Same Same is = refl
same_is Gained Gained is = refl
same_is Lost Lost is = refl
same_is Same Gained is = absurd cc
same_is Same Lost is = absurd cc
same_is Gained Same is = absurd cc
same_is Gained Lost is = absurd cc
same_is Lost Same is = absurd cc
same_is Lost Gained is = absurd cc

other_is : (own : Outcome) → own ≢ Same → same_outcome own Same ≡ false
other_is Same other = absurd (other refl)
other_is Gained other = refl
other_is Lost other = refl

module _ (told : Option (List ℕ) → Option (List ℕ) → Outcome) where
  abbrev Listed : Option (List ℕ) → Option (List ℕ) → Type 0
  Listed principal host =
      is_listed principal host (told principal host) (told principal None) (told None host) (told None None) ≡ true

  -- a class and those wider than it, one of which is listed
  record Found (principal host : Option (List ℕ)) : Type 0 where
    of_whom : Option (List ℕ)
    from_where : Option (List ℕ)
    whom : (of_whom ≡ principal) ⊎ (of_whom ≡ None)
    location : ((from_where ≡ host) × (of_whom ≡ principal)) ⊎ (from_where ≡ None)
    listed : Listed of_whom from_where
    same : told of_whom from_where ≡ told principal host

  found_widest : (principal host : Option (List ℕ)) → told None None ≡ told principal host
      → told principal host ≢ Same → Found principal host
  found_widest principal host same other = record {
    of_whom = None;
    from_where = None;
    whom = inr refl;
    location = inr refl;
    listed = ap not (other_is (told None None) (λ is. other (sym same ∙ is)));
    same = same;
  }

  found_anywhere : (principal : List ℕ) (host : Option (List ℕ))
      → told (Some principal) None ≡ told (Some principal) host
      → told (Some principal) host ≢ Same → Found (Some principal) host
  found_anywhere principal host same other =
      elim (cases_Bool (same_outcome (told (Some principal) None) (told None None))) [
        | inl wider ↦
            found_widest (Some principal) host (sym (same_is _ _ wider) ∙ same) other
        | inr own ↦ record {
          of_whom = Some principal;
          from_where = None;
          whom = inl refl;
          location = inr refl;
          listed = ap not own;
          same = same;
        }
      ]

  found : (principal host : Option (List ℕ)) → told principal host ≢ Same → Found principal host
  found None None other = found_widest None None refl other
  found (Some principal) None other = found_anywhere principal None refl other
  found None (Some host) other =
      elim (cases_Bool (same_outcome (told None (Some host)) (told None None))) [
        | inl wider ↦ found_widest None (Some host) (sym (same_is _ _ wider)) other
        | inr own ↦ record {
          of_whom = None;
          from_where = Some host;
          whom = inl refl;
          location = inl (refl, refl);
          listed = ap not own;
          same = refl;
        }
      ]
  found (Some principal) (Some host) other =
      elim (cases_Bool (same_outcome (told (Some principal) (Some host)) (told (Some principal) None))) [
        | inl wider ↦ found_anywhere principal (Some host) (sym (same_is _ _ wider)) other
        | inr own ↦ record {
          of_whom = Some principal;
          from_where = Some host;
          whom = inl refl;
          location = inl (refl, refl);
          listed = ap (λ b. not b || (same_outcome (told (Some principal) None) (told None None)
              && not (same_outcome (told (Some principal) (Some host)) (told None (Some host))))) own;
          same = refl;
        }
      ]

  -- where all stays the same nothing is listed
  none_listed : (principal host : Option (List ℕ)) → told principal host ≡ Same → told principal None ≡ Same
      → told None host ≡ Same → told None None ≡ Same
      → is_listed principal host (told principal host) (told principal None) (told None host) (told None None) ≡ false
  none_listed None None own from_others of_others widest = rw own refl
  none_listed (Some principal) None own from_others of_others widest = rw (own, widest) refl
  none_listed None (Some host) own from_others of_others widest = rw (own, widest) refl
  none_listed (Some principal) (Some host) own from_others of_others widest =
      rw (own, from_others, of_others, widest) refl

-- Answers of classes.

pub some_same : (entries : List (ℕ × Binding)) → some_in entries ≡ some_of entries
some_same [] = refl
some_same (entry ∷ rest) = refl

yes_is_in : (everyone : Bool) (matching : List (ℕ × Binding)) (principal host : Option (List ℕ))
    (operation : Operation)
    → yes_to (everyone && not (some_in matching)) (filter (is_for principal) matching) host operation
    ≡ yes_in false everyone matching principal host operation
yes_is_in everyone matching principal host operation =
    rw (
      any_some (is_met Deny host operation) (filter (is_for principal) matching),
      any_some (is_met Allow host operation) (filter (is_for principal) matching),
      some_same matching,
    ) refl

pub speaks : (text : List ℕ) (texts : List (List ℕ)) → SpeaksOf text (party_for texts text)
speaks text texts =
    elim (cases_Bool (list_any (same_text text) texts)) [
      | inl named ↦ rw named refl
      | inr unnamed ↦ rw unnamed tt
    ]

speaks_or : (text : List ℕ) (own wide : Option (List ℕ)) → SpeaksOf text own → (wide ≡ own) ⊎ (wide ≡ None)
    → SpeaksOf text wide
speaks_or text own wide spoken (inl same) = subst (SpeaksOf text) (sym same) spoken
speaks_or text own wide spoken (inr all) = subst (SpeaksOf text) (sym all) tt

-- The party that stands for a text, where the word for all asks as all others do.

abbrev party_but : List ℕ → List (List ℕ) → List ℕ → Option (List ℕ)
party_but all texts text = cond (same_text text all) None (party_for texts text)

or_self : (b : Bool) → b ≡ (b || b)
or_self true = refl
or_self false = refl

covers_but : (all bound text : List ℕ) (texts : List (List ℕ)) → Contains texts bound
    → covers_party all bound (party_but all texts text) ≡ covers_text all bound text
covers_but all bound text texts there =
    elim (cases_Bool (same_text text all)) [
      | inl same ↦
          rw same
          (subst (λ (t : List ℕ). same_text bound all ≡ (same_text bound t || same_text bound all))
          (sym ((bytes_eq-Decides text all).0 same)) (or_self (same_text bound all)))
      | inr other ↦ rw other (covers_same all bound text texts there)
    ]

speaks_but : (all text : List ℕ) (texts : List (List ℕ)) → SpeaksOf text (party_but all texts text)
speaks_but all text texts =
    elim (same_text text all) as (λ b. SpeaksOf text (cond b None (party_for texts text))) [
      | true ↦ tt
      | false ↦ speaks text texts
    ]

plain_but : (all : List ℕ) (supers texts : List (List ℕ)) (text : List ℕ) → is_super supers text ≡ false
    → is_super_party supers (party_but all texts text) ≡ false
plain_but all supers texts text plain =
    elim (same_text text all) as (λ b. is_super_party supers (cond b None (party_for texts text)) ≡ false) [
      | true ↦ refl
      | false ↦ plain_party supers texts text plain
    ]

not_word : (all text : List ℕ) (texts : List (List ℕ)) → names_all all (party_but all texts text) ≡ false
not_word all text texts =
    elim (cases_Bool (same_text text all)) [
      | inl same ↦ rw same refl
      | inr other ↦
          rw other (elim (cases_Bool (list_any (same_text text) texts)) [
            | inl named ↦ rw named other
            | inr unnamed ↦ rw unnamed refl
          ])
    ]

there_but : (all text : List ℕ) (texts : List (List ℕ)) (made : List (Option (List ℕ))) → Contains made None
    → Contains made (party_for texts text) → Contains made (party_but all texts text)
there_but all text texts made none there =
    elim (same_text text all) as (λ b. Contains made (cond b None (party_for texts text))) [
      | true ↦ none
      | false ↦ there
    ]

word_or : (all : List ℕ) (own wide : Option (List ℕ)) → names_all all own ≡ false → (wide ≡ own) ⊎ (wide ≡ None)
    → names_all all wide ≡ false
word_or all own wide plain (inl same) = ap (names_all all) same ∙ plain
word_or all own wide plain (inr none) = ap (names_all all) none

-- membership that a wider party keeps
among_or : (parties : List (Option (List ℕ))) (own wide : Option (List ℕ)) → Contains parties own
    → Contains parties None
    → (wide ≡ own) ⊎ (wide ≡ None) → Contains parties wide
among_or parties own wide in_own in_none (inl same) = subst (Contains parties) (sym same) in_own
among_or parties own wide in_own in_none (inr all) = subst (Contains parties) (sym all) in_none

plain_or : (supers : List (List ℕ)) (own wide : Option (List ℕ)) → is_super_party supers own ≡ false
    → (wide ≡ own) ⊎ (wide ≡ None) → is_super_party supers wide ≡ false
plain_or supers own wide plain (inl same) = ap (is_super_party supers) same ∙ plain
plain_or supers own wide plain (inr all) = ap (is_super_party supers) all

hosts_join : (sides : Sides) → hosts_in sides ≡ hosts_named (sides.before ++ sides.after)
unfolding hosts_in
hosts_join sides = sym (fold-append with_host (None ∷ []) sides.before sides.after)

principals_join : (sides : Sides) → principals_in sides ≡ principals_named (sides.before ++ sides.after)
unfolding principals_in
principals_join sides = sym (fold-append with_principal (None ∷ []) sides.before sides.after)

targets_join : (before after : Contents) → targets_in before after ≡ targets_named (before.entries ++ after.entries)
unfolding targets_in
targets_join before after = sym (fold-append with_target_of open_targets before.entries after.entries)

-- all others come first
others_kept : (step : List (Option (List ℕ)) → ℕ × Binding → List (Option (List ℕ))) (made : List (Option (List ℕ)))
    (entries : List (ℕ × Binding))
    → ((m : List (Option (List ℕ))) (e : ℕ × Binding) → Contains m None → Contains (step m e) None)
    → Contains made None → Contains (fold step made entries) None
others_kept step made [] keeps there = there
others_kept step made (entry ∷ rest) keeps there =
    others_kept step (step made entry) rest keeps (keeps made entry there)

party_keeps : (made : List (Option (List ℕ))) (text : List ℕ) → Contains made None
    → Contains (with_party made text) None
party_keeps made text there =
    elim (list_any (is_party text) made) as (λ b. Contains (cond b made (made ++ Some text ∷ [])) None) [
      | true ↦ there
      | false ↦ Contains-append_left made (Some text ∷ []) None there
    ]

host_others : (entries : List (ℕ × Binding)) → Contains (hosts_named entries) None
unfolding with_host
host_others entries =
    others_kept with_host (None ∷ []) entries (λ m e there. party_keeps m e.1.host there) (at_head None [])

principal_others : (entries : List (ℕ × Binding)) → Contains (principals_named entries) None
unfolding with_principal
principal_others entries =
    others_kept with_principal (None ∷ []) entries (λ m e there. party_keeps m e.1.principal there) (at_head None [])

kind_kept : (entries : List (ℕ × Binding)) (kind : ResourceKind) (name : List ℕ)
    → (target_for entries kind name).resource ≡ kind
kind_kept entries Topic name = refl
kind_kept entries Group name = refl
kind_kept entries Cluster name = refl
kind_kept entries TransactionalId name = refl

host_there : (sides : Sides) (principal host of_whom from_where : Option (List ℕ))
    → ((from_where ≡ host) × (of_whom ≡ principal)) ⊎ (from_where ≡ None)
    → Contains (hosts_in (asked_by principal sides)) host → Contains (hosts_in (asked_by of_whom sides)) from_where
host_there sides principal host of_whom from_where (inl both) there =
    subst (λ (p : Option (List ℕ)). Contains (hosts_in (asked_by p sides)) from_where) (sym both.1)
    (subst (Contains (hosts_in (asked_by principal sides))) (sym both.0) there)
host_there sides principal host of_whom from_where (inr all) there =
    let asked : Sides = asked_by of_whom sides in
    subst (Contains (hosts_in asked)) (sym all)
    (subst (λ (ps : List (Option (List ℕ))). Contains ps None) (sym (hosts_join asked))
    (host_others (asked.before ++ asked.after)))

module _ (before after : Contents) where
  abbrev mark : ℕ
  mark = mark_of before after

  abbrev entries : List (ℕ × Binding)
  entries = before.entries ++ after.entries

  -- what becomes of a class
  abbrev told_on : Target → Operation → Option (List ℕ) → Option (List ℕ) → Outcome
  told_on target operation principal host =
      outcome_to (asked_by principal (sides_on before after target)) host operation

  -- what becomes of a question is what becomes of the class that stands for it
  outcome_is : (question : Question) (target : Target) (principal host : Option (List ℕ))
      → Stands before.entries question target principal host → Stands after.entries question target principal host
      → is_super before.supers question.principal ≡ false → is_super after.supers question.principal ≡ false
      → outcome before after question ≡ told_on target question.operation principal host
  outcome_is question target principal host stands_before stands_after plain_before plain_after =
      let one : is_yes before question ≡ yes_to (sides_on before after target).open_before
      (asked_by principal (sides_on before after target)).before host question.operation =
      answered_as question target principal host before stands_before
      ∙ ap (λ s. yes_in s before.everyone (filter (is_on target) before.entries) principal host question.operation)
      plain_before
      ∙ sym (yes_is_in before.everyone (filter (is_on target) before.entries) principal host question.operation) in
      let other : is_yes after question ≡ yes_to (sides_on before after target).open_after
      (asked_by principal (sides_on before after target)).after host question.operation =
      answered_as question target principal host after stands_after
      ∙ ap (λ s. yes_in s after.everyone (filter (is_on target) after.entries) principal host question.operation)
      plain_after
      ∙ sym (yes_is_in after.everyone (filter (is_on target) after.entries) principal host question.operation) in
      ap (λ b. outcome_of b (is_yes after question)) one
      ∙ ap (outcome_of (yes_to (sides_on before after target).open_before
      (asked_by principal (sides_on before after target)).before host question.operation)) other

  clear_before : (entry : ℕ × Binding) → Contains before.entries entry → weight entry < mark
  clear_before entry there = omega (arith, in_sum weight before.entries entry there)

  clear_after : (entry : ℕ × Binding) → Contains after.entries entry → weight entry < mark
  clear_after entry there = omega (arith, in_sum weight after.entries entry there)

  plain_marked_before : (principal : Option (List ℕ)) → is_super_party before.supers principal ≡ false
      → is_super before.supers (party_text mark principal) ≡ false
  plain_marked_before principal plain =
      super_marked mark before.supers principal (λ user there. omega (arith, in_sum sum before.supers user there))
      ∙ plain

  plain_marked_after : (principal : Option (List ℕ)) → is_super_party after.supers principal ≡ false
      → is_super after.supers (party_text mark principal) ≡ false
  plain_marked_after principal plain =
      super_marked mark after.supers principal (λ user there. omega (arith, in_sum sum after.supers user there))
      ∙ plain

  -- what becomes of the representative
  represented : (class : Class) → is_super_party before.supers class.principal ≡ false
      → is_super_party after.supers class.principal ≡ false
      → outcome before after (representative mark class)
      ≡ told_on class.target class.operation class.principal class.host
  represented class plain_before plain_after =
      outcome_is (representative mark class) class.target class.principal class.host
      (stands_marked mark class before.entries clear_before) (stands_marked mark class after.entries clear_after)
      (plain_marked_before class.principal plain_before) (plain_marked_after class.principal plain_after)

  -- what is listed on a target
  to_list : (target : Target) (principal host : Option (List ℕ)) (operation : Operation)
      → changes_to (asked_by principal (sides_on before after target)) (asked_by None (sides_on before after target))
      target principal host operation
      ≡ cond (is_listed principal host (told_on target operation principal host)
      (told_on target operation principal None)
      (told_on target operation None host) (told_on target operation None None))
      (change_of target principal host operation (told_on target operation principal host) ∷ []) []
  unfolding changes_to
  to_list target principal host operation = refl

  by_list : (target : Target) (principal : Option (List ℕ)) → names_all (codes "User:*") principal ≡ false
      → is_super_party before.supers principal ≡ false
      → is_super_party after.supers principal ≡ false
      → changes_by before.supers after.supers (sides_on before after target) target principal
      ≡ flat_map (changes_from (asked_by principal (sides_on before after target))
      (asked_by None (sides_on before after target))
      target principal) (hosts_in (asked_by principal (sides_on before after target)))
  unfolding changes_by
  by_list target principal one plain_before plain_after = rw (one, plain_before, plain_after) refl

  by_none : (target : Target) (principal : Option (List ℕ))
      → (names_all (codes "User:*") principal
      || (is_super_party before.supers principal || is_super_party after.supers principal)) ≡ true
      → changes_by before.supers after.supers (sides_on before after target) target principal ≡ []
  unfolding changes_by
  by_none target principal super = rw super refl

  from_list : (target : Target) (principal host : Option (List ℕ)) → names_all (codes "*") host ≡ false
      → changes_from (asked_by principal (sides_on before after target))
      (asked_by None (sides_on before after target)) target principal host
      ≡ flat_map (changes_to (asked_by principal (sides_on before after target))
      (asked_by None (sides_on before after target))
      target principal host) operations
  unfolding changes_from
  from_list target principal host one = rw one refl

  from_none : (target : Target) (principal host : Option (List ℕ)) → names_all (codes "*") host ≡ true
      → changes_from (asked_by principal (sides_on before after target))
      (asked_by None (sides_on before after target)) target principal host
      ≡ []
  unfolding changes_from
  from_none target principal host all = rw all refl

  on_list : (target : Target) → changes_on before after target
      ≡ flat_map (changes_by before.supers after.supers (sides_on before after target) target)
      (principals_in (sides_on before after target))
  unfolding changes_on
  on_list target = refl

  of_list : changes_of before after ≡ flat_map (changes_on before after) (targets_in before after)
  unfolding changes_of
  of_list = refl

  -- a class that is listed is in the list
  row_there : (target : Target) (principal host : Option (List ℕ)) (operation : Operation)
      → Contains (targets_in before after) target → Contains (principals_in (sides_on before after target)) principal
      → names_all (codes "User:*") principal ≡ false → names_all (codes "*") host ≡ false
      → is_super_party before.supers principal ≡ false → is_super_party after.supers principal ≡ false
      → Contains (hosts_in (asked_by principal (sides_on before after target))) host → Contains operations operation
      → is_listed principal host (told_on target operation principal host) (told_on target operation principal None)
      (told_on target operation None host) (told_on target operation None None) ≡ true
      → Contains (changes_of before after)
      (change_of target principal host operation (told_on target operation principal host))
  row_there target principal host operation on who one_principal one_host plain_before plain_after where_from op
      listed =
      let sides : Sides = sides_on before after target in
      let change : Change = change_of target principal host operation (told_on target operation principal host) in
      let at_operation : Contains
      (changes_to (asked_by principal sides) (asked_by None sides) target principal host operation) change =
      subst (λ (cs : List Change). Contains cs change)
      (sym (to_list target principal host operation ∙ ap (λ b. cond b (change ∷ []) []) listed))
      (at_head change []) in
      let at_host : Contains (changes_from (asked_by principal sides) (asked_by None sides) target principal host)
      change =
      subst (λ (cs : List Change). Contains cs change) (sym (from_list target principal host one_host))
      (in_flat (changes_to (asked_by principal sides) (asked_by None sides) target principal host) operations
      operation change op at_operation) in
      let at_principal : Contains (changes_by before.supers after.supers sides target principal) change =
      subst (λ (cs : List Change). Contains cs change)
      (sym (by_list target principal one_principal plain_before plain_after))
      (in_flat (changes_from (asked_by principal sides) (asked_by None sides) target principal)
      (hosts_in (asked_by principal sides)) host
      change where_from at_host) in
      let at_target : Contains (changes_on before after target) change =
      subst (λ (cs : List Change). Contains cs change) (sym (on_list target))
      (in_flat (changes_by before.supers after.supers sides target) (principals_in sides) principal change who
      at_principal) in
      subst (λ (cs : List Change). Contains cs change) (sym of_list)
      (in_flat (changes_on before after) (targets_in before after) target change on at_target)

  -- where a change in the list comes from
  record Row (change : Change) : Type 0 where
    target : Target
    principal : Option (List ℕ)
    host : Option (List ℕ)
    operation : Operation
    on : Contains (targets_in before after) target
    plain_before : is_super_party before.supers principal ≡ false
    plain_after : is_super_party after.supers principal ≡ false
    op : Contains operations operation
    listed : is_listed principal host (told_on target operation principal host)
        (told_on target operation principal None)
        (told_on target operation None host) (told_on target operation None None) ≡ true
    is : change_of target principal host operation (told_on target operation principal host) ≡ change

  not_empty : {A : Type 0} (b : Bool) (x y : A) → Contains (cond b (x ∷ []) []) y → (b ≡ true) × (x ≡ y)
  not_empty true x y there =
      elim (first_or_rest x [] y there) [
        | inl is ↦ (refl, is)
        | inr later ↦ absurd (omega (arith, later.1))
      ]
  not_empty false x y there = absurd (omega (arith, there.1))

  or_none : (one other : Bool) → (one || other) ≡ false → (one ≡ false) × (other ≡ false)
  or_none true other is = absurd cc
  or_none false other is = (refl, is)

  row_from : (change : Change) (target : Target) → Contains (targets_in before after) target
      → (principal : Option (List ℕ)) → is_super_party before.supers principal ≡ false
      → is_super_party after.supers principal ≡ false → (host : Option (List ℕ))
      → Contains (changes_from (asked_by principal (sides_on before after target))
      (asked_by None (sides_on before after target))
      target principal host) change → Row change
  row_from change target on principal plain_before plain_after host at_host =
      let sides : Sides = sides_on before after target in
      elim (cases_Bool (names_all (codes "*") host)) [
        | inl all ↦
            let none = subst (λ (cs : List Change). Contains cs change) (from_none target principal host all)
            at_host in
            absurd (omega (arith, none.1))
        | inr one ↦
            let (operation, (op, at_operation)) =
            from_flat (changes_to (asked_by principal sides) (asked_by None sides) target principal host)
            operations change
            (subst (λ (cs : List Change). Contains cs change) (from_list target principal host one) at_host) in
            let (listed, is) = not_empty _ _ change
            (subst (λ (cs : List Change). Contains cs change) (to_list target principal host operation)
            at_operation) in
            record {
              target = target;
              principal = principal;
              host = host;
              operation = operation;
              on = on;
              plain_before = plain_before;
              plain_after = plain_after;
              op = op;
              listed = listed;
              is = is;
            }
      ]

  row_of : (change : Change) → Contains (changes_of before after) change → Row change
  row_of change there =
      let (target, (on, at_target)) = from_flat (changes_on before after) (targets_in before after) change
      (subst (λ (cs : List Change). Contains cs change) of_list there) in
      let sides : Sides = sides_on before after target in
      let (principal, (who, at_principal)) =
      from_flat (changes_by before.supers after.supers sides target) (principals_in sides) change
      (subst (λ (cs : List Change). Contains cs change) (on_list target) at_target) in
      elim (cases_Bool (names_all (codes "User:*") principal
      || (is_super_party before.supers principal || is_super_party after.supers principal))) [
        | inl super ↦
            let none = subst (λ (cs : List Change). Contains cs change) (by_none target principal super)
            at_principal in
            absurd (omega (arith, none.1))
        | inr plain ↦
            let (one, no_super) = or_none _ _ plain in
            let (plain_before, plain_after) = or_none _ _ no_super in
            let (host, (where_from, at_host)) =
            from_flat (changes_from (asked_by principal sides) (asked_by None sides) target principal)
            (hosts_in (asked_by principal sides)) change
            (subst (λ (cs : List Change). Contains cs change) (by_list target principal one plain_before plain_after)
            at_principal) in
            row_from change target on principal plain_before plain_after host at_host
      ]

  sound_row : (change : Change) → Row change
      → outcome before after (representative mark change.class) ≡ change.outcome
  sound_row change row =
      subst (λ (c : Change). outcome before after (representative mark c.class) ≡ c.outcome) row.is
      (represented (class_of row.target row.principal row.host row.operation) row.plain_before row.plain_after)

  on_a_target : (target : Target) → Contains (targets_in before after) target → Contains (targets entries) target
  on_a_target target on =
      only_named open_targets entries target
      (subst (λ (ts : List Target). Contains ts target) (targets_join before after) on)

  -- where nothing changes, nothing is listed
  no_row : ((question : Question) → IsPlain before after question → outcome before after question ≡ Same)
      → (change : Change) → Contains (changes_of before after) change → ⊥
  no_row none change there =
      let row = row_of change there in
      let stays : (principal host : Option (List ℕ)) → is_super_party before.supers principal ≡ false
      → is_super_party after.supers principal ≡ false → told_on row.target row.operation principal host ≡ Same =
      λ principal host plain_before plain_after.
      sym (represented (class_of row.target principal host row.operation) plain_before plain_after)
      ∙ none (representative mark (class_of row.target principal host row.operation)) (record {
        askable = askable_marked mark (class_of row.target principal host row.operation) entries row.op
            (on_a_target row.target row.on);
        plain_before = plain_marked_before principal plain_before;
        plain_after = plain_marked_after principal plain_after;
      }) in
      both_ways _ (none_listed (told_on row.target row.operation) row.principal row.host
      (stays row.principal row.host row.plain_before row.plain_after)
      (stays row.principal None row.plain_before row.plain_after)
      (stays None row.host refl refl) (stays None None refl refl)) row.listed

  empty_where_none : (found : List Change) → ((change : Change) → Contains found change → ⊥) → found ≡ []
  empty_where_none [] none = refl
  empty_where_none (change ∷ rest) none = absurd (none change (at_head change rest))

  -- the list tells every change
  told_row : (question : Question) → IsPlain before after question → outcome before after question ≢ Same
      → (change : Change) × (Contains (changes_of before after) change
      × Tells change question (outcome before after question))
  told_row question plain other =
      let target : Target = target_for entries question.resource question.name in
      let sides : Sides = sides_on before after target in
      let texts : List (List ℕ) = principals_of (sides.before ++ sides.after) in
      let principal : Option (List ℕ) = party_but (codes "User:*") texts question.principal in
      let asked : Sides = asked_by principal sides in
      let hosts : List (List ℕ) = hosts_of (asked.before ++ asked.after) in
      let host : Option (List ℕ) = party_but (codes "*") hosts question.host in
      let in_before : (entry : ℕ × Binding) → Contains before.entries entry → is_on target entry ≡ true
      → Contains (sides.before ++ sides.after) entry =
      λ entry there on. Contains-append_left sides.before sides.after entry
      (kept_by_filter (is_on target) before.entries entry there on) in
      let in_after : (entry : ℕ × Binding) → Contains after.entries entry → is_on target entry ≡ true
      → Contains (sides.before ++ sides.after) entry =
      λ entry there on. Contains-append_right sides.before sides.after entry
      (kept_by_filter (is_on target) after.entries entry there on) in
      let stands_before : Stands before.entries question target principal host = record {
        on = λ entry there.
            on_for entries question.resource question.name plain.askable.name entry
            (Contains-append_left before.entries after.entries entry there);
        asks = λ entry there on.
            covers_but (codes "User:*") entry.1.principal question.principal texts
            (among_mapped (λ (e : ℕ × Binding). e.1.principal) (sides.before ++ sides.after) entry
            (in_before entry there on));
        from = λ entry there on asks.
            covers_but (codes "*") entry.1.host question.host hosts
            (among_mapped (λ (e : ℕ × Binding). e.1.host) (asked.before ++ asked.after) entry
            (Contains-append_left asked.before asked.after entry (kept_by_filter (is_for principal) sides.before entry
            (kept_by_filter (is_on target) before.entries entry there on) asks)));
      } in
      let stands_after : Stands after.entries question target principal host = record {
        on = λ entry there.
            on_for entries question.resource question.name plain.askable.name entry
            (Contains-append_right before.entries after.entries entry there);
        asks = λ entry there on.
            covers_but (codes "User:*") entry.1.principal question.principal texts
            (among_mapped (λ (e : ℕ × Binding). e.1.principal) (sides.before ++ sides.after) entry
            (in_after entry there on));
        from = λ entry there on asks.
            covers_but (codes "*") entry.1.host question.host hosts
            (among_mapped (λ (e : ℕ × Binding). e.1.host) (asked.before ++ asked.after) entry
            (Contains-append_right asked.before asked.after entry (kept_by_filter (is_for principal) sides.after entry
            (kept_by_filter (is_on target) after.entries entry there on) asks)));
      } in
      let is = outcome_is question target principal host stands_before stands_after plain.plain_before
      plain.plain_after in
      let row = found (told_on target question.operation) principal host (λ same. other (is ∙ same)) in
      let on : Contains (targets_in before after) target =
      subst (λ (ts : List Target). Contains ts target) (sym (targets_join before after))
      (all_named open_targets entries target (target_there entries question.resource question.name)) in
      let who : Contains (principals_in sides) row.of_whom =
      subst (λ (ps : List (Option (List ℕ))). Contains ps row.of_whom) (sym (principals_join sides))
      (among_or (principals_named (sides.before ++ sides.after)) principal row.of_whom
      (there_but (codes "User:*") question.principal texts (principals_named (sides.before ++ sides.after))
      (principal_others (sides.before ++ sides.after))
      (subst (λ (ps : List (Option (List ℕ))). Contains ps (party_for texts question.principal))
      (sym (principals_are (sides.before ++ sides.after))) (party_there texts question.principal)))
      (principal_others (sides.before ++ sides.after)) row.whom) in
      let where_from : Contains (hosts_in (asked_by row.of_whom sides)) row.from_where =
      host_there sides principal host row.of_whom row.from_where row.location
      (subst (λ (ps : List (Option (List ℕ))). Contains ps host) (sym (hosts_join asked))
      (there_but (codes "*") question.host hosts (hosts_named (asked.before ++ asked.after))
      (host_others (asked.before ++ asked.after))
      (subst (λ (ps : List (Option (List ℕ))). Contains ps (party_for hosts question.host))
      (sym (hosts_are (asked.before ++ asked.after))) (party_there hosts question.host)))) in
      let at_host : (row.from_where ≡ host) ⊎ (row.from_where ≡ None) =
      elim row.location [ inl both ↦ inl both.0 | inr all ↦ inr all ] in
      let there = row_there target row.of_whom row.from_where question.operation on who
      (word_or (codes "User:*") principal row.of_whom (not_word (codes "User:*") question.principal texts) row.whom)
      (word_or (codes "*") host row.from_where (not_word (codes "*") question.host hosts) at_host)
      (plain_or before.supers principal row.of_whom
      (plain_but (codes "User:*") before.supers texts question.principal plain.plain_before) row.whom)
      (plain_or after.supers principal row.of_whom
      (plain_but (codes "User:*") after.supers texts question.principal plain.plain_after) row.whom)
      where_from (asked_there question.operation plain.askable.operation) row.listed in (
        change_of target row.of_whom row.from_where question.operation
            (told_on target question.operation row.of_whom row.from_where),
        (
          there,
          record {
            principal = speaks_or question.principal principal row.of_whom
                (speaks_but (codes "User:*") question.principal texts) row.whom;
            host = speaks_or question.host host row.from_where (speaks_but (codes "*") question.host hosts) at_host;
            operation = refl;
            resource = kind_kept entries question.resource question.name;
            outcome = row.same ∙ sym is;
          },
        ),
      )

pub lists_changes : (before after : Contents) (found : List Change) → found ≡ changes_of before after
    → ListsChanges before after found
lists_changes before after found is = record {
  sound = λ change there.
      sound_row before after change
      (row_of before after change (subst (λ (cs : List Change). Contains cs change) is there));
  complete = λ question plain other.
      let (change, (there, tells)) = told_row before after question plain other in
      (change, (subst (λ (cs : List Change). Contains cs change) (sym is) there, tells));
  none = λ none. is ∙ empty_where_none before after (changes_of before after) (no_row before after none);
}
