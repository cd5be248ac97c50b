-- A denial is the same wherever the bindings in force and the super users are.
use Rattle.kob_broker.proofs.Words.{AgreeOnAccess, Check, Code, Contents, Denied, Event, List, Meaning, Option, Reply, SameDenial, State, Verdict, [], ap, arith, denial_naming, denial_of, first_unmet, nat_tests, option_map, refl, rights, step, step_by, sym, ℕ, ◌+◌, ◌∙◌, ◌∷◌, ◌≡◌, Bool, EachBlamed, EachGranted, EachJust, HoldsInForce, IsBlame, IsDenial, IsJust, IsRising, None, Settings, Some, SomeGranted, Write, access_after, added_rises, after_write, changed_access, cond, denial_code, false, is_granted, is_met, map, named, open_state, or_cases, or_parts, question, removed_rises, slice_get, state_after, subst, suc, take, true, true_verdict, verdict, write_of, zero, AreThose, EachLists, IsTrue, Lists, ListsGroups, ListsTopics, StandsIn, Topic, describes_cluster, describes_group, describes_topic, filter, group_names, groups_shown, in_force_at, inl, inr, listed, listed_where, ◌↔◌, ◌⊎◌}
use Rattle.kob_broker.proofs.Steps.{step_fits, reply_at, state_keeps}
use Rattle.kob_broker.specs.Justice.{HasCodes, denial_codes}
use Rattle.kob_broker.specs.State.{Request}
use Rattle.kob_rights.specs.Table.{code_on_last}
use Rattle.kob_rights.specs.declared.code.Code.TheVariants.{TopicAuthorizationFailed}
use Rattle.std.specs.Prelude.{slice_index_or}

-- no decision reads the serial that comes next
unmet_alike : (access : Contents) (next : ℕ) (event : Event) (n : ℕ) (clauses : List (List Check))
    → first_unmet (record access { next = next }) event n clauses ≡ first_unmet access event n clauses
unmet_alike access next event n [] = refl
unmet_alike access next event n (clause ∷ clauses) =
    grind (arith, nat_tests, unmet_alike access next event (n + 1) clauses)

with_next : (one other : Contents) → AgreeOnAccess one other → record one { next = other.next } ≡ other
with_next one other k = grind (arith, nat_tests)

denial_alike : (one other : Contents) (event : Event) → AgreeOnAccess one other
    → denial_of one event ≡ denial_of other event
denial_alike one other event k =
    ap (option_map (denial_naming one event)) (sym (unmet_alike one other.next event 0 (rights event.request)))
    ∙ ap (λ (access : Contents). denial_of access event) (with_next one other k)

agree_back : (one other : Contents) → AgreeOnAccess one other → AgreeOnAccess other one
agree_back one other k = record { entries = sym k.entries; supers = sym k.supers; everyone = sym k.everyone }

module _ {P Q : Type 0} (m : Meaning P) (n : Meaning Q) where
  -- what is done or refused is no denial
  denied_alike : (s : State P) (t : State Q) (event : Event) → AgreeOnAccess s.access t.access
      → (code : Code) (verdicts : List Verdict)
      → (step m s event).reply ≡ Denied code verdicts → (step n t event).reply ≡ Denied code verdicts
  denied_alike s t event same code verdicts =
      step_fits m s event (λ o. o.reply ≡ Denied code verdicts → (step n t event).reply ≡ Denied code verdicts)
      (λ blamed is told.
      ap (λ (denial : Option Reply). (step_by n denial t event).reply)
      (sym (denial_alike s.access t.access event same) ∙ ap (option_map (denial_naming s.access event)) is)
      ∙ told)
      (λ reason granted is told. cc) (λ granted is told. cc)

module _ {P Q : Type 0} (m : Meaning P) (n : Meaning Q) where
  pub same_denial : (s : State P) (t : State Q) (event : Event) → AgreeOnAccess s.access t.access
      → SameDenial (step m s event).reply (step n t event).reply
  same_denial s t event same =
      let back = denied_alike n m t s event (agree_back s.access t.access same) in
      record { denied = λ code verdicts. (denied_alike m n s t event same code verdicts, back code verdicts) }

-- Why each reply is just.

-- the bindings in force have rising serials
abbrev pub IsNumbered : Contents → Type 0
IsNumbered access = IsRising 1 access.entries access.next

blames : (access : Contents) (event : Event) (check : Check) → IsNumbered access
    → is_granted (verdict access event check) ≡ false → IsBlame access event check (verdict access event check)
blames access event check numbered ungranted =
    grind (arith, nat_tests, true_verdict access (question event check) numbered)

-- a clause that isn't met has a reason for each alternative
pub each_blamed : (access : Contents) (event : Event) (clause : List Check) → IsNumbered access
    → is_met access event clause ≡ false → EachBlamed access event clause (map (verdict access event) clause)
each_blamed access event [] numbered h = tt
each_blamed access event (check ∷ checks) numbered h =
    grind (arith, nat_tests, or_parts, blames, each_blamed access event checks numbered)

some_granted : (access : Contents) (event : Event) (clause : List Check) → is_met access event clause ≡ true
    → SomeGranted access event clause
some_granted access event [] h = cc
some_granted access event (check ∷ checks) h = grind (arith, nat_tests, or_cases, some_granted access event checks)

-- what the search for a clause that isn't met finds
pub record Found (access : Contents) (event : Event) (clauses : List (List Check)) (n : ℕ)
    (blamed : ℕ × List Check) : Type 0 where
  pub place : ℕ
  pub found_is : blamed.0 ≡ n + place
  pub clause_is : slice_get clauses place ≡ Some blamed.1
  pub before : EachGranted access event (take place clauses)
  pub not_met : is_met access event blamed.1 ≡ false

module _ (access : Contents) (event : Event) where
  abbrev pub Says : List (List Check) → ℕ → Option (ℕ × List Check) → Type 0
  Says clauses n None = EachGranted access event clauses
  Says clauses n (Some blamed) = Found access event clauses n blamed

  says_step : (clause : List Check) (clauses : List (List Check)) (n : ℕ) (met : Bool)
      → is_met access event clause ≡ met → (found : Option (ℕ × List Check)) → Says clauses (n + 1) found
      → Says (clause ∷ clauses) n (cond met found (Some (n, clause)))
  says_step clause clauses n true is None granted = (some_granted access event clause is, granted)
  says_step clause clauses n true is (Some blamed) found = record {
    place = suc found.place;
    found_is = let e = found.found_is in omega arith;
    clause_is = found.clause_is;
    before = (some_granted access event clause is, found.before);
    not_met = found.not_met;
  }
  says_step clause clauses n false is found later = grind (arith, nat_tests)

  pub search_says : (clauses : List (List Check)) (n : ℕ) → Says clauses n (first_unmet access event n clauses)
  search_says [] n = tt
  search_says (clause ∷ clauses) n = grind (arith, nat_tests, says_step, search_says clauses (n + 1))

found_denial : (access : Contents) (event : Event) (blamed : ℕ × List Check) → IsNumbered access
    → Found access event (rights event.request) 0 blamed
    → IsDenial access event (denial_code event.request blamed.0) (map (verdict access event) blamed.1)
found_denial access event blamed numbered f = grind (arith, nat_tests, each_blamed)

module _ {P : Type 0} (m : Meaning P) where
  -- the reply to one event is just
  step_just : (s : State P) (event : Event) → IsNumbered s.access → IsJust s.access event (step m s event).reply
  step_just s event numbered =
      let Searched = Says s.access event (rights event.request) 0 in
      let says = search_says s.access event (rights event.request) 0 in
      step_fits m s event (λ o. IsJust s.access event o.reply)
      (λ blamed is. found_denial s.access event blamed numbered (subst Searched is says))
      (λ reason granted is. subst Searched granted says) (λ granted is. subst Searched granted says)

  -- the bindings after one event are those that its reply says
  after_access : (s : State P) (found : Option P) (write : Option Write)
      → (after_write m s found write).access ≡ changed_access write s.access
  after_access s found write = grind (arith, nat_tests)

  pub step_access : (s : State P) (event : Event)
      → (step m s event).state.access ≡ access_after (step m s event).reply event.request s.access
  step_access s event =
      grind (arith, nat_tests, step_fits m s event, after_access s (named s event.request) (write_of event.request))

  -- and are numbered
  written_numbered : (s : State P) (found : Option P) (write : Option Write) → IsNumbered s.access
      → IsNumbered (after_write m s found write).access
  written_numbered s found write numbered = grind (arith, nat_tests, added_rises, removed_rises)

  step_numbered : (s : State P) (event : Event) → IsNumbered s.access → IsNumbered (step m s event).state.access
  step_numbered s event numbered =
      step_fits m s event (λ o. IsNumbered o.state.access) (λ blamed is. numbered) (λ reason granted is. numbered)
      (λ granted is. written_numbered s (named s event.request) (write_of event.request) numbered)

  -- the bindings after the first events of a run are those that are in force
  pub run_access : (events : List Event) (s : State P) → HoldsInForce m events s
  run_access [] s zero = refl
  run_access [] s (suc k) = refl
  run_access (e ∷ events) s zero = refl
  run_access (e ∷ events) s (suc k) = grind (arith, nat_tests, run_access events, step_access)

  -- and so each reply of a run is just
  pub run_just : (events : List Event) (s : State P) → IsNumbered s.access → EachJust m events s
  run_just events s numbered k event reply at told =
      let now : State P = state_after m (take k events) s in
      let now_numbered =
      state_keeps m (λ _ t. IsNumbered t.access) (λ _. Unit {0}) (λ e later t h. (tt, step_numbered t e h))
      (take k events) [] s numbered in
      subst (λ (access : Contents). IsJust access event reply) (run_access events s k)
      (subst (IsJust now.access event) (reply_at m events s k event reply at told) (step_just now event now_numbered))

  pub opened_just : (settings : Settings) (events : List Event) → EachJust m events (open_state settings)
  opened_just settings events = grind (arith, nat_tests, run_just, added_rises)

-- What a filter leaves stands in the list and passes the test, in the list's order.

module _ {A : Type 0} (shown : A → Type 0) where
  -- one more that is not shown
  not_listed : (xs : List A) (y : A) (ys : List A) → ¬ shown y → AreThose shown xs ys → AreThose shown xs (y ∷ ys)
  not_listed [] y ys hidden rest = (hidden, rest)
  not_listed (x ∷ xs) y ys hidden rest = inr (hidden, rest)

  -- where all are shown, all are listed
  all_in_order : (all : List A) → ((x : A) → shown x) → AreThose shown all all
  all_in_order [] each = tt
  all_in_order (x ∷ xs) each = inl (each x, (refl, all_in_order xs each))

  -- a test that tells what is shown
  module _ (test : A → Bool) (yes : (x : A) → test x ≡ true → shown x) (no : (x : A) → shown x → test x ≡ true) where
    holds_of : (x : A) (all : List A) → StandsIn x (filter test all) ↔ (shown x × StandsIn x all)
    holds_of x [] = (λ nowhere. absurd nowhere, λ both. both.1)
    holds_of x (y ∷ ys) = grind (arith, nat_tests, holds_of x ys)

    order_of : (all : List A) → AreThose shown (filter test all) all
    order_of [] = tt
    order_of (y ∷ ys) = grind (arith, nat_tests, order_of ys, not_listed)

    pub lists_passing : (all : List A) → Lists shown (filter test all) all
    lists_passing all = record { holds = λ x. holds_of x all; in_order = order_of all }

abbrev Pair : Type 0
Pair = List ℕ × ℕ

topics_listed : {P : Type 0} (granted : List ℕ → Bool) (topics : List (Topic P))
    → Lists (λ (p : Pair). IsTrue (granted p.0)) (listed_where granted topics) (map listed topics)
topics_listed granted topics =
    lists_passing (λ (p : Pair). IsTrue (granted p.0)) (λ (p : Pair). granted p.0) (λ p is. is) (λ p is. is)
    (map listed topics)

groups_listed : (cluster : Bool) (granted : List ℕ → Bool) (names : List (List ℕ))
    → Lists (λ name. IsTrue cluster ⊎ IsTrue (granted name)) (cond cluster names (filter granted names)) names
groups_listed true granted names = grind (arith, nat_tests, all_in_order)
groups_listed false granted names =
    lists_passing (λ name. IsTrue false ⊎ IsTrue (granted name)) granted (λ name is. inr is)
    (λ name either. elim either [ inl untrue ↦ absurd (let false_is : false ≡ true = untrue in cc) | inr is ↦ is ])
    names

module _ {P : Type 0} (m : Meaning P) where
  lists_topics : (s : State P) (event : Event) → ListsTopics s.access s event (step m s event).reply
  lists_topics s event asks = (
    listed_where (describes_topic s.access event) s.topics,
    rw asks refl,
    topics_listed (describes_topic s.access event) s.topics,
  )

  lists_groups : (s : State P) (event : Event) → ListsGroups s.access s event (step m s event).reply
  lists_groups s event asks = (
    groups_shown s.access event (group_names s.groups),
    rw asks refl,
    groups_listed (describes_cluster s.access event) (describes_group s.access event) (group_names s.groups),
  )

  pub each_lists : (events : List Event) (s : State P) → EachLists m events s
  each_lists events s k event reply at told =
      let now : State P = state_after m (take k events) s in
      let Both : Contents → Reply → Type 0 = λ access r. ListsTopics access now event r × ListsGroups access now event r in
      subst (Both (in_force_at m events s k)) (reply_at m events s k event reply at told)
      (subst (λ (a : Contents). Both a (step m now event).reply) (run_access m events s k)
      (lists_topics now event, lists_groups now event))

-- What code a denial has.

codes_by_rows : (request : Request) → denial_codes request ≡ map (code_on_last TopicAuthorizationFailed) (rights request)
codes_by_rows request = grind (arith, nat_tests)

code_of_clause : (clauses : List (List Check)) (place : ℕ)
    → slice_get (map (code_on_last TopicAuthorizationFailed) clauses) place
    ≡ option_map (λ _. code_on_last TopicAuthorizationFailed (slice_index_or clauses place [])) (slice_get clauses place)
code_of_clause [] place = grind (arith, nat_tests)
code_of_clause (clause ∷ clauses) zero = refl
code_of_clause (clause ∷ clauses) (suc place) = grind (arith, nat_tests, code_of_clause clauses place)

pub codes_by_request : (request : Request) → HasCodes request (denial_codes request)
codes_by_request request place =
    ap (λ codes. slice_get codes place) (codes_by_rows request) ∙ code_of_clause (rights request) place
