-- What taking an event in does, and what taking a record in answers.
use Rattle.kob_inbox.proofs.Words.{Blob, Bor, List, Option, arith, bound_value, key_value, nat_tests, option_copied, or_null, ℕ, ◌≡◌, Chosen, Contents, Enforced, Err, Error, Executes, Holds, IfErr, IfOk, Ignored, Int, Intake, IsAlone, IsInbox, IsMemory, IsOnce, IsReadable, IsSuited, IsTrue, NeverFails, None, Ok, OnErr, OnOk, ReferToNone, Result, Row, State, Text, [], accepts_terms, all-append, all_fine, all_weaker, alone_test, ap, ascending-append, bytes_eq, bytes_eq-Decides, cases_Bool, cast_int, cast_null, cast_row, conflicts, contents_in, equal_texts, execute_stays, false, if◌then◌else◌, ignores, inbox_schema, inbox_table, inbox_tree, inl, inr, is_there, length, length-append, none_from_any, not_true, placed_row, pos, refl, rests, stopped_by_memory, suc, suits_by, true, uncounted, unequal_numbers, with_intake, with_rowid, ◌++◌, ◌<◌, ◌^◌, ◌∙◌, ◌∷◌, ◌≢◌, HasLast, InboxFault, IsErrAnd, IsErrOf, Some, Store, Taken, answer_to, fault_of, id_text, sym, ◌+◌}
use Rattle.sqlite_value.specs.Keys.{first_key}
use Rattle.sqlite_tied.specs.Compute.{everything}
use Rattle.kob_inbox.proofs.Reading.{inbox_holds}
use Rattle.kob_inbox.proofs.Texts.{insert_intake, put_text, put_whole, new_row}

pub lent_key : (key : Option (Bor (List ℕ)))
    → or_null (λ (b : Bor (List ℕ)). Blob b.now) key ≡ key_value (option_copied key)
lent_key key = grind (arith, nat_tests)

pub bound_key : (key : Option (List ℕ)) → bound_value (key_value key) ≡ key_value key
bound_key key = grind (arith, nat_tests)

abbrev pub intake_params : ℕ → Intake → Row
intake_params n e =
    Int (pos n) ∷ Text e.id ∷ Text e.topic ∷ Int (pos e.partition) ∷ Int (pos e.offset) ∷ key_value e.key
    ∷ Blob e.value ∷ []

alone : IsAlone inbox_schema Enforced inbox_tree
alone olds news = refl

-- the row of an event, by its key
abbrev keyed : ℕ × Intake → Option (List ℕ) → Row
keyed p key = placed_row (p.0, record p.1 { key = key })

-- nothing in such a row alone speaks against it
suits_keyed : (p : ℕ × Intake) (key : Option (List ℕ)) → IsSuited inbox_table (keyed p key)
suits_keyed p key = grind (arith, nat_tests, suits_by)

conflict_is : (p q : ℕ × Intake) → p.0 < q.0
    → conflicts None inbox_schema.indexes (uncounted inbox_table) (placed_row q) (placed_row p)
    ≡ bytes_eq p.1.id q.1.id
unfolding first_key
conflict_is p q low = rw (unequal_numbers p.0 q.0 low, equal_texts p.1.id q.1.id) (alone_test (bytes_eq p.1.id q.1.id))

refer_to_none : ReferToNone inbox_schema
refer_to_none among db = (all_fine _, tt)

accepted_keyed : (p : ℕ × Intake) (key : Option (List ℕ))
    → accepts_terms new_row (intake_params p.0 (record p.1 { key = key })) ≡ true
unfolding everything
accepted_keyed p key = grind (arith, nat_tests)

module _ (old : State) (was : IsInbox old) (e : Intake) where
  abbrev events : Contents
  events = contents_in old.now.trees

  abbrev n : ℕ
  n = suc (length events)

  abbrev row : Row
  row = placed_row (n, e)

  cast_it : cast_row (uncounted inbox_table) row ≡ row
  cast_it = grind (arith, nat_tests, cast_int, pos, cast_null)

  -- the statement took the event in, or found its id
  pub goes : (new : State) (count : ℕ) → Executes put_text (intake_params n e) old new (Ok count)
      → Ignored inbox_schema inbox_table placed_row events e (is_there events e.id) old.now.trees new.now.trees count
      × (new.now.schema ≡ inbox_schema) × (new.committed ≡ (if old.in_transaction then old.committed else new.now))
      × (new.in_transaction ≡ old.in_transaction)
  goes =
      ignores insert_intake alone (intake_params n e) row refl placed_row (λ _. refl) (λ x y. bytes_eq x.id y.id)
      conflict_is old was.schema n e events refl was.holds.rows cast_it
      (ap (with_rowid Chosen (old.now.trees inbox_tree)) cast_it) (suits_keyed (n, e) e.key)

  -- where the id is there, nothing but want of memory stops the statement
  pub goes_again : n < 2 ^ 63 → is_there events e.id ≡ true → (new : State) (why : Error) → NeverFails old new
      → Executes put_text (intake_params n e) old new (Err why) → IsMemory why
  goes_again =
      stopped_by_memory insert_intake alone (intake_params n e) row refl placed_row (λ _. refl)
      (λ x y. bytes_eq x.id y.id) conflict_is old was.schema n e events refl was.holds.rows cast_it
      (ap (with_rowid Chosen (old.now.trees inbox_tree)) cast_it) (suits_keyed (n, e) e.key) refer_to_none put_whole
      (accepted_keyed (n, e) e.key)

-- ---- the events afterwards

bytes_eq_sym : (s t : List ℕ) → bytes_eq s t ≡ false → bytes_eq t s ≡ false
bytes_eq_sym s t other = grind (arith, nat_tests, not_true, bytes_eq-Decides)

-- an id that is not there is not that of any event
once_with : (e : Intake) (events : Contents) → is_there events e.id ≡ false → IsOnce events → IsOnce (events ++ e ∷ [])
once_with e events absent once =
    ascending-append (λ (a b : Intake). bytes_eq b.id a.id ≡ false) events (e ∷ []) once (tt, tt)
    (all_weaker (λ (x : Intake). bytes_eq x.id e.id ≡ false) _ (λ x other. (bytes_eq_sym x.id e.id other, tt)) events
    (none_from_any (λ (x : Intake). bytes_eq x.id e.id) events absent))

-- what the statement leaves, whatever it answers
pub takes : (old new : State) (e : Intake) (r : Result ℕ Error) → IsInbox old → IsReadable e
    → suc (length (contents_in old.now.trees)) < 2 ^ 63 → new.step_limit ≡ old.step_limit → IsTrue new.is_open
    → Executes put_text (intake_params (suc (length (contents_in old.now.trees))) e) old new r
    → IsInbox new × OnOk r (contents_in new.now.trees ≡ with_intake (contents_in old.now.trees) e)
    × IfOk r (λ count. count ≡ 0 → IsTrue (is_there (contents_in old.now.trees) e.id))
    × IfOk r (λ count. count ≢ 0 → is_there (contents_in old.now.trees) e.id ≡ false)
    × OnErr r (contents_in new.now.trees ≡ contents_in old.now.trees)
takes old new e (Err why) was fine low limit opened h = grind (arith, nat_tests, execute_stays, rests)
takes old new e (Ok count) was fine low limit opened h =
    let events = contents_in old.now.trees in let it = goes old was e new count h in
    let left : (left : Contents) → Holds left new.now.trees → IsInbox new × (contents_in new.now.trees ≡ left) =
    λ left. inbox_holds left new it.1 (rw was.idle at it.2) (it.3 ∙ was.idle) (limit ∙ was.unlimited) in
    elim (cases_Bool (is_there events e.id)) [
      | inl there ↦ grind (arith, nat_tests)
      | inr absent ↦ grind (arith, nat_tests, length-append, once_with, all-append)
    ]

-- an id that is there is refused for want of memory alone
pub takes_again : (old new : State) (e : Intake) (r : Result ℕ Error) → IsInbox old → NeverFails old new
    → suc (length (contents_in old.now.trees)) < 2 ^ 63
    → Executes put_text (intake_params (suc (length (contents_in old.now.trees))) e) old new r
    → IfErr r (λ why. IsTrue (is_there (contents_in old.now.trees) e.id) → IsMemory why)
takes_again old new e r was never low h = grind (arith, nat_tests, goes_again)

-- ---- what taking a record in answers

module _ {events view : Contents} {found : Option (List ℕ)} {uuid id : List ℕ} (same : events ≡ view)
    (is : Some uuid ≡ found) (text : id ≡ id_text uuid) where
  -- where the id is there, only want of memory stops it
  pub stored : {A : Type 0} (r : Result A InboxFault) (e : Error) → IsErrAnd r (λ f. f ≡ fault_of e)
      → (IsTrue (is_there events id) → IsMemory e) → IsErrOf r Store → answer_to view found ≡ Taken
  stored r e gives again h = grind (arith, nat_tests, cases_Bool)

-- ---- the last place afterwards

module _ (last : ℕ) (old new : State) (was : HasLast last old) (inbox : IsInbox new) where
  pub stays : contents_in new.now.trees ≡ contents_in old.now.trees → HasLast last new
  stays same = record { inbox = inbox; last_is = was.last_is ∙ ap length (sym same) }

  module _ (e : Intake) (left : contents_in new.now.trees ≡ with_intake (contents_in old.now.trees) e) where
    pub stays_seen : is_there (contents_in old.now.trees) e.id ≡ true → HasLast last new
    stays_seen there = stays (left ∙ rw there refl)

    pub moves : is_there (contents_in old.now.trees) e.id ≡ false → HasLast (last + 1) new
    moves absent = grind (arith, nat_tests, length-append)
