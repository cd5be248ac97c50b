-- What the fixed texts mean.
use Rattle.kob_inbox.proofs.Words.{Ignore, InsertOr, IsCreation, IsSelect, IsWhole, IsWriting, List, Null, Scan, Term, Values, [], arith, by_key, codes, col, inbox, inbox_schema, inbox_table, lit, no_limit, no_schema, over, refl, ℕ, ◌∷◌}
use Rattle.sqlite_tied.specs.Compute.{everything}
use Rattle.sqlite.specs.Listing.{understood}

abbrev pub create_text : List ℕ
create_text =
    codes "CREATE TABLE inbox (place INTEGER PRIMARY KEY NOT NULL, id TEXT UNIQUE NOT NULL, topic TEXT NOT NULL, part INTEGER NOT NULL, off INTEGER NOT NULL, rkey BLOB, rvalue BLOB NOT NULL)"

pub create_inbox : IsCreation no_schema create_text inbox
unfolding understood everything
create_inbox = record { is = refl; whole = refl; defines = refl; plain = (refl, refl); counts_none = refl }

-- ---- an event goes in

abbrev pub put_text : List ℕ
put_text =
    codes "INSERT OR IGNORE INTO inbox (place, id, topic, part, off, rkey, rvalue) VALUES (?1, ?2, ?3, ?4, ?5, ?6, ?7)"

abbrev pub new_row : List Term
new_row = col 0 0 ∷ lit Null ∷ col 0 1 ∷ col 0 2 ∷ col 0 3 ∷ col 0 4 ∷ col 0 5 ∷ col 0 6 ∷ []

pub insert_intake : IsWriting inbox_schema put_text (InsertOr 0 Ignore (Values new_row 8) []) 0 inbox_table
unfolding understood everything
insert_intake =
    record { is = refl; plain = (refl, refl); found = refl; on = λ l m p d t r it. it; runs = λ o n t p c it. it }

pub put_whole : IsWhole 7 put_text (understood inbox_schema put_text)
unfolding understood everything
put_whole = (omega arith, refl)

-- ---- all events

abbrev pub all_taken : Scan
all_taken = over 0 [] (col 1 0 ∷ col 1 2 ∷ col 1 3 ∷ col 1 4 ∷ col 1 5 ∷ col 1 6 ∷ col 1 7 ∷ []) by_key no_limit

pub select_taken : IsSelect inbox_schema
    (codes "SELECT place, id, topic, part, off, rkey, rvalue FROM inbox ORDER BY place") [] all_taken
unfolding understood everything
select_taken =
    record { is = (_, refl); unlisted = refl; plain = (refl, refl); whole = (omega arith, refl); accepted = refl }
