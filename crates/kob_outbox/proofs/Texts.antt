-- What the fixed texts mean.
use Rattle.kob_outbox.proofs.statements.Words.{understood, everything, [], Abort, Binary, Command, Compare, Delete, Eq, Gt, Ignore, Insert, InsertOr, Int, Le, List, Null, Some, Term, Text, Update, Upsert, Values, arith, business, business_table, codes, col, lit, mark, mark_table, nat_tests, no_schema, one_table, op2, outbox, outbox_table, pos, refl, service_schema, spent, spent_table, three_tables, two_tables, ℕ, ◌∷◌}
use Rattle.kob_outbox.proofs.statements.Steps.{IsCreation, IsWriting}
use Rattle.kob_outbox.proofs.statements.Selecting.{IsSelect, Scan, by_key, no_limit, over, program_of}

pub create_business : IsCreation no_schema
    (codes "CREATE TABLE business (kind TEXT NOT NULL, id TEXT NOT NULL, state TEXT NOT NULL, PRIMARY KEY (kind, id))")
    business
unfolding understood everything
create_business = record { is = refl; whole = refl; defines = refl; plain = (refl, refl); counts_none = refl }

pub create_spent : IsCreation one_table (codes "CREATE TABLE spent (id TEXT PRIMARY KEY NOT NULL, seq INTEGER NOT NULL)")
    spent
unfolding understood everything
create_spent = record { is = refl; whole = refl; defines = refl; plain = (refl, refl); counts_none = refl }

pub create_mark : IsCreation two_tables
    (codes "CREATE TABLE mark (one INTEGER PRIMARY KEY NOT NULL, upto INTEGER NOT NULL)") mark
unfolding understood everything
create_mark = record { is = refl; whole = refl; defines = refl; plain = (refl, refl); counts_none = refl }

abbrev pub outbox_text : List ℕ
outbox_text =
    codes "CREATE TABLE outbox (seq INTEGER PRIMARY KEY NOT NULL, id TEXT UNIQUE NOT NULL, aggregatetype TEXT NOT NULL, aggregateid TEXT NOT NULL, type TEXT NOT NULL, payload BLOB NOT NULL)"

pub create_outbox : IsCreation three_tables outbox_text outbox
unfolding understood everything
create_outbox = record { is = refl; whole = refl; defines = refl; plain = (refl, refl); counts_none = refl }

-- ---- the mark

abbrev pub first_mark : List Term
first_mark = lit (Int (pos 1)) ∷ lit Null ∷ lit (Int (pos 0)) ∷ []

abbrev pub first_mark_text : List ℕ
first_mark_text = codes "INSERT INTO mark (one, upto) VALUES (1, 0)"

pub insert_mark : IsWriting service_schema first_mark_text (Insert 2 (Values first_mark 3)) 2 mark_table
unfolding understood everything
insert_mark = grind (arith, nat_tests)

abbrev pub moved_marks : Scan
moved_marks = over 4 [] (col 1 0 ∷ col 1 0 ∷ lit Null ∷ col 0 0 ∷ []) [] no_limit

abbrev pub move_mark_text : List ℕ
move_mark_text = codes "UPDATE mark SET upto = ?1"

pub update_mark : IsWriting service_schema move_mark_text (Update 2 (program_of moved_marks)) 2 mark_table
unfolding understood everything
update_mark = grind (arith, nat_tests)

-- ---- the ids that were recorded

abbrev pub spend_text : List ℕ
spend_text = codes "INSERT OR IGNORE INTO spent (id, seq) VALUES (?1, ?2)"

abbrev pub new_spent : List Term
new_spent = lit Null ∷ col 0 0 ∷ col 0 1 ∷ []

abbrev pub spending : Command
spending = InsertOr 1 Ignore (Values new_spent 3) []

pub insert_spent : IsWriting service_schema spend_text spending 1 spent_table
unfolding understood everything
insert_spent = grind (arith, nat_tests)

-- ---- the business rows

abbrev pub new_business : List Term
new_business = lit Null ∷ col 0 0 ∷ col 0 1 ∷ col 0 2 ∷ []

-- The row that is there: it has the number that stands behind the three parameters, and gets the new state.
abbrev pub business_there : Scan
business_there =
    over 0 (op2 (Compare Eq Binary) (col 1 0) (col 0 3) ∷ [])
    (col 1 0 ∷ col 1 0 ∷ col 1 1 ∷ col 1 2 ∷ col 0 7 ∷ []) [] no_limit

-- what becomes of a row whose kind and id are there
abbrev pub over_business : Upsert
over_business = record {
  target = Some (1 ∷ 2 ∷ []);
  update = Some (program_of business_there);
}

abbrev pub put_business_text : List ℕ
put_business_text =
    codes "INSERT INTO business (kind, id, state) VALUES (?1, ?2, ?3) ON CONFLICT (kind, id) DO UPDATE SET state = excluded.state"

pub replace_business : IsWriting service_schema put_business_text
    (InsertOr 0 Abort (Values new_business 4) (over_business ∷ [])) 0 business_table
unfolding understood everything
replace_business =
    record { is = refl; plain = (refl, refl); found = refl; on = λ l m p d t r it. it; runs = λ o n t p c it. it }

abbrev pub business_found : Scan
business_found =
    over 0 (op2 (Compare Eq Binary) (col 1 1) (col 0 0) ∷ op2 (Compare Eq Binary) (col 1 2) (col 0 1) ∷ [])
    (col 1 3 ∷ []) [] no_limit

pub select_business : (kind id : List ℕ) → IsSelect service_schema
    (codes "SELECT state FROM business WHERE kind = ?1 AND id = ?2") (Text kind ∷ Text id ∷ []) business_found
unfolding understood everything
select_business kind id =
    record { is = (_, refl); unlisted = refl; plain = (refl, refl); whole = (omega arith, refl); accepted = refl }

-- ---- the events

abbrev pub put_event_text : List ℕ
put_event_text =
    codes "INSERT INTO outbox (seq, id, aggregatetype, aggregateid, type, payload) VALUES (?1, ?2, ?3, ?4, ?5, ?6)"

abbrev pub new_event : List Term
new_event = col 0 0 ∷ lit Null ∷ col 0 1 ∷ col 0 2 ∷ col 0 3 ∷ col 0 4 ∷ col 0 5 ∷ []

pub insert_event : IsWriting service_schema put_event_text (Insert 3 (Values new_event 7)) 3 outbox_table
unfolding understood everything
insert_event = grind (arith, nat_tests)

abbrev pub events_after : Scan
events_after =
    over 5 (op2 (Compare Gt Binary) (col 1 0) (col 0 0) ∷ [])
    (col 1 0 ∷ col 1 2 ∷ col 1 3 ∷ col 1 4 ∷ col 1 5 ∷ col 1 6 ∷ []) by_key (col 0 1)

pub select_after : (seq limit : ℕ) → IsSelect service_schema
    (codes "SELECT seq, id, aggregatetype, aggregateid, type, payload FROM outbox WHERE seq > ?1 ORDER BY seq LIMIT ?2")
    (Int (pos seq) ∷ Int (pos limit) ∷ []) events_after
unfolding understood everything
select_after seq limit =
    record { is = (_, refl); unlisted = refl; plain = (refl, refl); whole = (omega arith, refl); accepted = refl }

-- those that a sweep takes out
abbrev pub events_upto : Scan
events_upto = over 5 (op2 (Compare Le Binary) (col 1 0) (col 0 0) ∷ []) (col 1 0 ∷ []) [] no_limit

pub select_sent : (upto : ℕ) → IsSelect service_schema (codes "SELECT seq FROM outbox WHERE seq <= ?1")
    (Int (pos upto) ∷ []) events_upto
unfolding understood everything
select_sent upto =
    record { is = (_, refl); unlisted = refl; plain = (refl, refl); whole = (omega arith, refl); accepted = refl }

abbrev pub sweep_text : List ℕ
sweep_text = codes "DELETE FROM outbox WHERE seq <= ?1"

pub delete_sent : IsWriting service_schema sweep_text (Delete 3 (program_of events_upto)) 3 outbox_table
unfolding understood everything
delete_sent = grind (arith, nat_tests)
