-- What is read back of the events that the tree holds, and what the SELECTs answer.
use Rattle.kob_inbox.proofs.Words.{Contents, Error, Holds, IsBlank, IsInbox, List, None, OnOk, Result, State, [], arith, contents_in, false, inbox_schema, key_in, nat_tests, rows_back, ℕ, ◌≡◌, AllByRecursion, Intake, IsReadable, IsShown, Row, ap, blob_in, column, enumerate_from, map, map_back, number_in, shown_intake, sym, text_in, ◌+◌, ◌∙◌, ◌∷◌, Int, IsAnswer, Output, Trees, all_stay, in_order, inbox_tree, map-map, number_below, overlay, placed_row, pos, query_of, refl, rises, rising, true}
use Rattle.kob_inbox.proofs.Texts.{all_taken}

-- the database is the inbox, with these events
pub inbox_holds : (events : Contents) (s : State) → s.now.schema ≡ inbox_schema → s.committed ≡ s.now
    → s.in_transaction ≡ false → s.step_limit ≡ None → Holds events s.now.trees
    → IsInbox s × (contents_in s.now.trees ≡ events)
inbox_holds events s schema settled idle unlimited holds = grind (arith, nat_tests, rows_back)

-- a table that was made is an inbox without events
pub opens : (s : State) (r : Result ℕ Error) → OnOk r (IsBlank inbox_schema s)
    → OnOk r (IsInbox s) × OnOk r (contents_in s.now.trees ≡ [])
opens s r h = grind (arith, nat_tests, inbox_holds)

-- the event that a row shows, behind its place
abbrev intake_shown : Row → ℕ × Intake
intake_shown row = (
  number_in (column row 0),
  record {
    id = text_in (column row 1);
    topic = text_in (column row 2);
    partition = number_in (column row 3);
    offset = number_in (column row 4);
    key = key_in (column row 5);
    value = blob_in (column row 6);
  },
)

shown_back : (events : List (ℕ × Intake)) → map intake_shown (map shown_intake events) ≡ events
shown_back = grind (arith, nat_tests, map_back)

pub same_events : (xs ys : List (ℕ × Intake)) → map shown_intake xs ≡ map shown_intake ys → xs ≡ ys
same_events xs ys h = sym (shown_back xs) ∙ ap (map intake_shown) h ∙ shown_back ys

pub all_shown : (k : ℕ) (events : Contents) → AllByRecursion IsReadable events
    → AllByRecursion IsShown (map shown_intake (enumerate_from k events))
all_shown k [] all = tt
all_shown k (e ∷ events) all = grind (arith, nat_tests, all_shown (k + 1) events all.1)

module _ (db : Trees) (rows : List Row) (events : Contents)
    (is : db inbox_tree ≡ map placed_row (enumerate_from 1 events)) where
  abbrev placed : List (ℕ × Intake)
  placed = enumerate_from 1 events

  pub answer_taken : IsAnswer (query_of all_taken) (overlay db []) [] rows → rows ≡ map shown_intake placed
  answer_taken a =
      let out : ℕ × Intake → Output = λ p. (Int (pos p.0) ∷ [], shown_intake p) in
      in_order all_taken [] placed_row (λ _. true) (λ _. refl) db placed is placed (all_stay placed) rows a
      (rises (λ (p : ℕ × Intake). p.0) all_taken out (λ p q low. rw (number_below p.0 q.0 low) refl) placed
      (rising 1 events))
      ∙ map-map (λ (o : Output). o.1) out placed
