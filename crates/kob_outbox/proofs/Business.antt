-- The business rows: the map of their states, and what the statement on them does.
use Rattle.kob_outbox.proofs.statements.Words.{first_key, [], AllByRecursion, AreBusiness, Bool, Business, IsAntisymmetric, IsAscending, IsTotalOrder, IsUtf8, Key, List, Row, Some, States, Text, all_weaker, and_parts, ap, arith, bytes_eq, bytes_eq-Decides, cases_Bool, cond, entry_of, eq_by_cmp, false, filter, filter_none, find, from_entries, get, get-from_entries, get-insert, has_key, if◌then◌else◌, insert, is_eq, is_eq-slice_cmp, key_cmp, length, map, nat_cmp, nat_tests, on_texts, refl, same_map, shown_state, state_at, sym, then_total, true, ℕ, ◌&&◌, ◌∙◌, ◌∷◌, ◌≡◌, ◌≤◌, both_ways, false_from_ne_true, Binary, Has, Int, IsRisingFrom, add-one, all_has, business_table, conflicts, equal, fold, id_in, inl, inr, placed_row, pos, put_row, rowid, service_schema, subst, suc, without_rowid, ◌+ℤ◌, ◌<◌, Abort, AreConflicts, Database, Enforced, Err, Error, ExecutesInside, Holds, InsertsOr, IsChanging, IsJudged, Judged, Meets, None, Null, Ok, OnOk, Option, Puts, Refusal, Result, State, Task, Trees, Updates, Upserts, Values, Written, business_tree, contents_of, edit_of, edited, shown, with_state, ◌++◌, and-true}
use Rattle.kob_outbox.proofs.statements.Values.{equal_itself, equal_texts, number_above, number_below, number_same, unequal_above, unequal_numbers, none_conflicts, one_conflicts}
use Rattle.kob_outbox.proofs.Holding.{alone, changing_holds}
use Rattle.kob_outbox.proofs.statements.Steps.{KeepOthers, uncounted, task_on, tried, put, updated, candidate, cast_int, cast_null, wrote}
use Rattle.kob_outbox.proofs.statements.Selecting.{program_of, one_at_most}
use Rattle.kob_outbox.proofs.Texts.{business_there, new_business, over_business, put_business_text, replace_business}

abbrev pub Placed : Type 0
Placed = ℕ × Business

abbrev pub AreApart : List Placed → Type 0
AreApart = IsAscending (λ (a b : Placed). has_key b.1.kind b.1.id a.1 ≡ false)

pub bytes_eq_sym : (s t : List ℕ) → bytes_eq s t ≡ bytes_eq t s
bytes_eq_sym s t = grind (arith, nat_tests, both_ways, bytes_eq-Decides)

pub key_total : IsTotalOrder key_cmp
key_total = then_total (on_texts (λ k. k.0)) (on_texts (λ k. k.1))

-- keys tie where both texts are equal
pub ties : (q k : Key) → eq_by_cmp key_cmp q k ≡ (bytes_eq q.0 k.0 && bytes_eq q.1 k.1)
ties q k = grind (arith, nat_tests, nat_cmp, is_eq-slice_cmp)

pub same_key : (q k : Key) → (bytes_eq q.0 k.0 && bytes_eq q.1 k.1) ≡ true → q ≡ k
same_key q k h = grind (arith, nat_tests, and_parts, bytes_eq-Decides)

key_same : IsAntisymmetric key_cmp
key_same x y e = same_key x y (sym (ties x y) ∙ ap is_eq e)

abbrev pub has_key_of : Business → Business → Bool
has_key_of b x = has_key b.kind b.id x

abbrev pub key : Business → Key
key b = (b.kind, b.id)

-- the business row takes the place of the first one with its key, or goes last under a number
abbrev pub upserted : Business → ℕ → List Placed → List Placed
upserted b n [] = (n, b) ∷ []
upserted b n (p ∷ ps) = if has_key_of b p.1 then (p.0, b) ∷ ps else p ∷ upserted b n ps

-- one key does not tie with two that differ
tied_once : (b : Business) (q : Key) (x : Business) → has_key_of b x ≡ false → eq_by_cmp key_cmp q (key x) ≡ true
    → ¬ (eq_by_cmp key_cmp q (key b) ≡ true)
tied_once b q x other here there =
    grind (arith, nat_tests, ties q (key x), ties q (key b), same_key q (key x), same_key q (key b))

exchange : {X : Type 0} (s t : Bool) (x y z : X) → (s ≡ true → ¬ (t ≡ true))
    → cond s x (cond t y z) ≡ cond t y (cond s x z)
exchange s t x y z once = grind (arith, nat_tests)

twice : {X : Type 0} (t : Bool) (x y z : X) → cond t x z ≡ cond t x (cond t y z)
twice t x y z = grind (arith, nat_tests)

-- the look-up finds the state under the key of the business row, and elsewhere what it found
found : (b : Business) (n : ℕ) (q : Key) (ps : List Placed) → find key_cmp q (map entry_of (upserted b n ps))
    ≡ cond (eq_by_cmp key_cmp q (key b)) (Some b.state) (find key_cmp q (map entry_of ps))
found b n q [] = refl
found b n q (p ∷ ps) =
    let again = twice (eq_by_cmp key_cmp q (key b)) (Some b.state) (Some p.1.state) (find key_cmp q (map entry_of ps)) in
    grind (arith, nat_tests, cases_Bool (has_key_of b p.1), same_key (key p.1) (key b), found b n q ps, exchange, tied_once)

pub states_upserted : (b : Business) (n : ℕ) (ps : List Placed)
    → from_entries {R = key_cmp} (map entry_of (upserted b n ps))
    ≡ insert (from_entries (map entry_of ps)) (key b) b.state
states_upserted b n ps = same_map key_total key_same _ _ (λ q.
    get-from_entries key_total _ q ∙ found b n q ps
    ∙ sym (get-insert key_total (from_entries (map entry_of ps)) (key b) b.state q
    ∙ ap (cond (eq_by_cmp key_cmp q (key b)) (Some b.state)) (get-from_entries key_total (map entry_of ps) q)))

-- a row with this key has no other with its key after it
no_more : (kind id : List ℕ) (p : Placed) (ps : List Placed) → has_key kind id p.1 ≡ true
    → AllByRecursion (λ (x : Placed). has_key x.1.kind x.1.id p.1 ≡ false) ps
    → filter (λ (x : Placed). has_key kind id x.1) ps ≡ []
no_more kind id p ps is apart =
    grind (arith, nat_tests, filter_none, all_weaker, false_from_ne_true, same_key, bytes_eq-Decides)

pub one_has_key : (kind id : List ℕ) (ps : List Placed) → AreApart ps
    → length (filter (λ (p : Placed). has_key kind id p.1) ps) ≤ 1
one_has_key kind id [] apart = omega arith
one_has_key kind id (p ∷ ps) apart = grind (arith, nat_tests, cases_Bool, no_more, one_has_key kind id ps apart.1)

tied_as : (kind id : List ℕ) (x : Business) → eq_by_cmp key_cmp (kind, id) (key x) ≡ has_key kind id x
tied_as kind id x = ties (kind, id) (key x) ∙ rw (bytes_eq_sym kind x.kind, bytes_eq_sym id x.id) refl

-- the row with a key shows the state that the map has there
shown_in : (kind id : List ℕ) (ps : List Placed) → AreApart ps
    → map (λ (p : Placed). Text p.1.state ∷ []) (filter (λ (p : Placed). has_key kind id p.1) ps)
    ≡ shown_state (find key_cmp (kind, id) (map entry_of ps))
shown_in kind id [] apart = refl
shown_in kind id (p ∷ ps) apart = grind (arith, nat_tests, cases_Bool, tied_as, no_more, shown_in kind id ps apart.1)

pub shown_at : (kind id : List ℕ) (ps : List Placed) → AreApart ps
    → map (λ (p : Placed). Text p.1.state ∷ []) (filter (λ (p : Placed). has_key kind id p.1) ps)
    ≡ shown_state (get (from_entries {R = key_cmp} (map entry_of ps)) (kind, id))
shown_at kind id ps apart = grind (arith, nat_tests, shown_in, get-from_entries, key_total)

-- each state in the map is text
text_in_rows : (q : Key) (ps : List Placed) (s : List ℕ) → AllByRecursion (λ (p : Placed). IsUtf8 p.1.state) ps
    → find key_cmp q (map entry_of ps) ≡ Some s → IsUtf8 s
text_in_rows q [] s all is = absurd cc
text_in_rows q (p ∷ ps) s all is = grind (arith, nat_tests, cases_Bool, eq_by_cmp, text_in_rows q ps s all.1)

pub text_at : (kind id : List ℕ) (rows : List Row) (states : States) (s : List ℕ) → AreBusiness rows states
    → state_at kind id states ≡ Some s → IsUtf8 s
text_at kind id rows states s are is = grind (arith, nat_tests, text_in_rows, get-from_entries, key_total, get)

-- ---- where one is written over or put last

-- ---- the next number

abbrev pub next_after : ℕ → List Placed → ℕ
next_after low [] = low
next_after low (p ∷ ps) = next_after (suc p.0) ps

pub next_placed : (low : ℕ) (ps : List Placed)
    → fold (λ _ r. id_in (rowid r) +ℤ pos 1) (pos low) (map placed_row ps) ≡ pos (next_after low ps)
next_placed low [] = refl
next_placed low (p ∷ ps) = grind (arith, nat_tests, fold, rowid, pos, add-one, next_placed (suc p.0) ps)

after_low : (low : ℕ) (ps : List Placed) → IsRisingFrom low ps → low ≤ next_after low ps
after_low low [] h = omega arith
after_low low (p ∷ ps) h = omega (arith, h.0, after_low (suc p.0) ps h.1)

at_least : (low : ℕ) (ps : List Placed) (p : Placed) → IsRisingFrom low ps → Has ps p → low ≤ p.0
at_least low [] p rising h = elim h [ ]
at_least low (q ∷ ps) p rising (inl e) = subst (λ x. low ≤ x.0) (sym e) rising.0
at_least low (q ∷ ps) p rising (inr h) = omega (arith, rising.0, at_least (suc q.0) ps p rising.1 h)

-- ---- the row that conflicts is the one with the key

pub conflict_is : (old new : Placed)
    → conflicts (Some (1 ∷ 2 ∷ [])) service_schema.indexes business_table (placed_row new) (placed_row old)
    ≡ has_key_of new.1 old.1
unfolding first_key
conflict_is old new = grind (arith, nat_tests, equal_texts, bytes_eq)

-- no row has the key
abbrev pub NoneHas : Business → List Placed → Type 0
NoneHas b = AllByRecursion (λ (p : Placed). has_key_of b p.1 ≡ false)

module _ (b : Business) where
  -- ---- the rows afterwards are those of a table

  all_upserted : (Q : Business → Type 0) (n : ℕ) (ps : List Placed) → Q b → AllByRecursion (λ (p : Placed). Q p.1) ps
      → AllByRecursion (λ (p : Placed). Q p.1) (upserted b n ps)
  all_upserted Q n [] one all = (one, tt)
  all_upserted Q n (p ∷ ps) one all = grind (arith, nat_tests, cases_Bool, all_upserted Q n ps one all.1)

  apart_upserted : (n : ℕ) (ps : List Placed) → AreApart ps → AreApart (upserted b n ps)
  apart_upserted n [] apart = (tt, tt)
  apart_upserted n (p ∷ ps) apart = elim (cases_Bool (has_key_of b p.1)) [
    | inl here ↦
        rw here (
          subst (λ (k : Key). AllByRecursion (λ x. (bytes_eq k.0 x.1.kind && bytes_eq k.1 x.1.id) ≡ false) ps)
              (same_key (key p.1) (key b) here) apart.0,
          apart.1,
        )
    | inr other ↦
        rw other (all_upserted (λ x. has_key x.kind x.id p.1 ≡ false) n ps other apart.0, apart_upserted n ps apart.1)
  ]

  rising_upserted : (n low : ℕ) (ps : List Placed) → IsRisingFrom low ps → next_after low ps ≤ n
      → IsRisingFrom low (upserted b n ps)
  rising_upserted n low [] rising up = (up, tt)
  rising_upserted n low (p ∷ ps) rising up =
      grind (arith, nat_tests, cases_Bool, rising_upserted n (suc p.0) ps rising.1 up)

  pub business_upserted : (n : ℕ) (rows after : List Row) (states : States) (has : AreBusiness rows states)
      → next_after 1 has.placed ≤ n → IsUtf8 b.state → after ≡ map placed_row (upserted b n has.placed)
      → AreBusiness after (insert states (key b) b.state)
  business_upserted n rows after states has up state is =
      grind (arith, nat_tests, rising_upserted, states_upserted, all_upserted (λ x. IsUtf8 x.state), apart_upserted)

  -- ---- a row whose key is new goes last

  pub put_new : (n low : ℕ) (ps : List Placed) → IsRisingFrom low ps → next_after low ps ≤ n → NoneHas b ps
      → put_row (placed_row (n, b)) (map placed_row ps) ≡ map placed_row (upserted b n ps)
  put_new n low [] rising up none = refl
  put_new n low (p ∷ ps) rising up none =
      grind (arith, nat_tests, after_low, number_below, put_new n (suc p.0) ps rising.1 up none.1)

  -- ---- a row whose key is there is written over

  module _ (t : Placed) (here : has_key_of b t.1 ≡ true) where
    abbrev pub is_it : Placed → Bool
    is_it p = equal Binary (Int (pos p.0)) (Int (pos t.0))

    -- a row past which all numbers are
    past : (low : ℕ) (ps : List Placed) → t.0 < low → IsRisingFrom low ps
        → (filter is_it ps ≡ []) × (without_rowid (pos t.0) (map placed_row ps) ≡ map placed_row ps)
        × (put_row (placed_row (t.0, b)) (map placed_row ps) ≡ placed_row (t.0, b) ∷ map placed_row ps)
    past low [] up rising = (refl, refl, refl)
    past low (p ∷ ps) up rising = grind (arith, nat_tests, past (suc p.0) ps, unequal_above, number_above)

    -- it is the only one with its number, and the new row comes in its place
    abbrev Over : ℕ → List Placed → Type 0
    Over n ps =
        (filter is_it ps ≡ t ∷ [])
        × (put_row (placed_row (t.0, b)) (without_rowid (pos t.0) (map placed_row ps))
        ≡ map placed_row (upserted b n ps))

    pub put_over : (n low : ℕ) (ps : List Placed) → IsRisingFrom low ps → AreApart ps → Has ps t → Over n ps
    put_over n low [] rising apart h = elim h [ ]
    put_over n low (p ∷ ps) rising apart (inl e) =
        let more = past (suc p.0) ps in grind (arith, nat_tests, equal_itself, number_same)
    put_over n low (p ∷ ps) rising apart (inr h) =
        let below = at_least (suc p.0) ps t rising.1 h in let same = same_key (key t.1) (key b) here in
        let other = all_has (λ (x : Placed). has_key x.1.kind x.1.id p.1 ≡ false) ps t apart.0 h in
        let more = put_over n (suc p.0) ps rising.1 apart.1 h in
        grind (arith, nat_tests, unequal_numbers, number_below)

-- ---- what the statement does

module _ (limit : Option ℕ) (b : Business) (db : Trees) (states : States)
    (has : AreBusiness (db business_tree) states) (state : IsUtf8 b.state) where
  abbrev params : Row
  params = Text b.kind ∷ Text b.id ∷ Text b.state ∷ []

  abbrev n : ℕ
  n = next_after 1 has.placed

  abbrev row : Row
  row = placed_row (n, b)

  abbrev task : Task
  task = task_on limit Enforced service_schema business_table params

  -- the business rows hold these states, and the other tables are as they were
  abbrev Done : Trees → Type 0
  Done after =
      AreBusiness (after business_tree) (insert states (key b) b.state)
      × KeepOthers business_tree db after service_schema.tables

  abbrev Found : Option (List ℕ) → List Row → Type 0
  Found target = AreConflicts target service_schema.indexes (uncounted business_table) (db business_tree) row

  none_has : Found (Some (1 ∷ 2 ∷ [])) [] → NoneHas b has.placed
  none_has =
      none_conflicts placed_row has.placed (db business_tree) has.rows_are (Some (1 ∷ 2 ∷ [])) service_schema
      (uncounted business_table) row (λ p. has_key_of b p.1) (λ p _. conflict_is p (n, b))

  puts_last : (one : Written) → NoneHas b has.placed → Puts task row db (Ok one) → Done one.trees
  puts_last one none h =
      let applies = put limit Enforced service_schema business_table params (alone business_tree) row db one h in
      let new = put_new b n 1 has.placed has.rising (omega arith) none in
      let business = business_upserted b n _ (one.trees business_tree) states has (omega arith) state in
      grind (arith, nat_tests, edit_of, cast_int, edited)

  -- where the key is new, it makes no difference what OR would say
  inserts : (one : Written) → NoneHas b has.placed → Upserts task Abort row db [] (Ok one) → Done one.trees
  inserts one none ([], conf, h) = puts_last one none h
  inserts one none (x ∷ more, conf, h) = puts_last one none h

  -- a row has the key
  module _ (t : Placed) (here : has_key_of b t.1 ≡ true) (h : Has has.placed t) where
    -- the parameters, and what stands behind them: the number of the row that is there, and the new row
    abbrev given : Row
    given = params ++ Int (pos t.0) ∷ Int (pos n) ∷ params

    resolves : (one : Written) → Updates task (program_of business_there) given db (Ok one) → Done one.trees
    resolves one does =
        let over = put_over b t here n 1 has.placed has.rising has.apart h in
        let it = updated limit Enforced service_schema business_table params (alone business_tree)
        (program_of business_there) given db one does in
        let answer : it.0 ≡ (Int (pos t.0) ∷ Int (pos t.0) ∷ Text t.1.kind ∷ Text t.1.id ∷ Text b.state ∷ []) ∷ [] =
        one_at_most business_there given placed_row (is_it b t here) (λ p. and-true (is_it b t here p)) db has.placed
        has.rows_are (t ∷ []) over.0 it.0 (it.1.answer Null) (omega arith) in
        let key_is = same_key (key t.1) (key b) here in let cast = cast_int (pos t.0) in let changed = it.2.rows in
        let business = business_upserted b n _ (one.trees business_tree) states has (omega arith) state in
        grind (arith, nat_tests, edit_of, edited)

  there : (x : Row) (more : List Row) → Found (Some (1 ∷ 2 ∷ [])) (x ∷ more)
      → (t : Placed) × (has_key_of b t.1 ≡ true) × Has has.placed t × (x ≡ Int (pos t.0) ∷ [])
  there =
      one_conflicts placed_row has.placed (db business_tree) has.rows_are (Some (1 ∷ 2 ∷ [])) service_schema
      (uncounted business_table) row (λ p. has_key_of b p.1) (λ p _. conflict_is p (n, b))

  meets : (one : Written) (found : List Row) → Found (Some (1 ∷ 2 ∷ [])) found
      → Meets task (Upserts task Abort row db []) row db over_business found (Ok one) → Done one.trees
  meets one [] conf h = inserts one (none_has conf) h
  meets one (x ∷ more) conf h =
      let t = there x more conf in
      resolves t.0 t.1 t.2 one
      (subst (λ x. Updates task (program_of business_there)
      (params ++ rowid x ∷ shown (uncounted business_table) row) db (Ok one)) t.3 h)

  decided : (one : Written) (verdict : Option Refusal) → IsJudged (uncounted business_table) row verdict
      → Judged task Abort (over_business ∷ []) row db verdict (Ok one) → Done one.trees
  decided one None judged h = meets one h.0 h.1 h.2
  decided one (Some why) judged h = absurd (let e : Ok one ≡ Err _ = h in cc)

  tried_row : candidate limit Enforced service_schema business_table params (alone business_tree)
      Abort db (Null ∷ params) ≡ row
  tried_row = rw (cast_null, has.rows_are, next_placed 1 has.placed)

  pub written : (w : Written) → InsertsOr task Abort (over_business ∷ []) (Values new_business 4) db (Ok w)
      → Done w.trees
  written w does =
      let u = tried limit Enforced service_schema business_table params (alone business_tree) Abort
      (over_business ∷ []) new_business 4
      (Null ∷ params) row db w refl tried_row does in
      subst Done (sym u.trees) (decided u.one u.verdict u.judged u.does)

pub replaces : (old new : State) (b : Business) (r : Result ℕ Error) → IsUtf8 b.state → IsChanging old
    → new.step_limit ≡ old.step_limit → ExecutesInside 0 put_business_text
    (Text b.kind ∷ Text b.id ∷ Text b.state ∷ []) old new r
    → OnOk r (IsChanging new) × OnOk r (contents_of new ≡ with_state (contents_of old) (key b) b.state)
replaces old new b (Err e) state was limit h = (tt, tt)
replaces old new b (Ok count) state was limit h =
    let c = contents_of old in let holds = was.holds in
    let it = wrote replace_business (Text b.kind ∷ Text b.id ∷ Text b.state ∷ []) old new was.schema count h.0 in
    let done = written old.step_limit b old.now.trees c.business holds.business state it.written it.does in
    let more : Holds (with_state c (key b) b.state) it.written.trees = grind (arith, nat_tests) in
    changing_holds (with_state c (key b) b.state) old new limit was (ap (λ (d : Database). d.schema) it.now)
    (it.mode ∙ was.begun) (subst (λ (d : Database). Holds (with_state c (key b) b.state) d.trees) (sym it.now) more)
