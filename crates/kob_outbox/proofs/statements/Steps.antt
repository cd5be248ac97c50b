-- What a write does to the trees, where no foreign key and no AUTOINCREMENT is about, and what its text means.
use Rattle.kob_outbox.proofs.statements.Words.{[], AllByRecursion, Answers, Applies, Chosen, Conflict, Counter, Counts, Deletes, Edit, Edited, Given, Gives, Inserts, InsertsOr, Int, Integer, IsJudged, IsSource, Judged, Keys, List, None, Null, Ok, Option, Program, Puts, Refusal, Row, Schema, Source, Table, Task, Term, Then, Trees, TriesEach, Updates, Upsert, Values, Written, ap, arith, cast, cast_row, count_of, edit_of, false, ids_of, last_id, length, mended, nat_tests, nothing, one_step, option_or, taken_by, value_rows, with_rowid, works, ℕ, ℤ, ◌++◌, ◌/◌, ◌∙◌, ◌∷◌, ◌≡◌, ◌≢◌, Command, Database, Does, Enforced, Executes, Insert, IsPlain, Mode, OnRows, OnTable, Runs, Some, State, Tally, Writes, WritesRows, command_of, edited, if◌then◌else◌, mode_of, put_row, runs_as, slice_get, statement_of, subst, sym, understood, CreateTable, Err, Error, HasCleanDisk, Held, IsBlank, KeepsRows, MemStore, OnOk, Result, all-append, created, database, lacks_sequence, memory_is_clean, next_tree, IfOk, no_schema, table_defined_by}
use Rattle.sqlite.specs.Held.{IsNew}
use Rattle.sqlite.specs.Ops.{unary}
use Rattle.sqlite.specs.Steps.{IsEmpty}
use Rattle.std.specs.Result.{MatchResult, is_ok}
use Rattle.kob_outbox.proofs.statements.Plain.{went, same_value}

pub cast_null : cast Integer Null ≡ Null
unfolding unary
cast_null = grind (arith, nat_tests)

pub cast_int : (n : ℤ) → cast Integer (Int n) ≡ Int n
unfolding unary
cast_int n = grind (arith, nat_tests)

-- the table counts no rowids, and no default of it reads the time
abbrev pub uncounted : Table → Table
uncounted table = record table { is_counted = false; stamps = record { places = []; terms = []; formats = [] } }

abbrev pub task_on : Option ℕ → Keys → Schema → Table → Row → Task
task_on limit keys schema table params =
    record { limit = limit; keys = keys; schema = schema; table = uncounted table; params = params }

-- each of these tables but the one in this tree has the rows that it had
abbrev pub KeepOthers : ℕ → Trees → Trees → List Table → Type 0
KeepOthers tree db next tables = AllByRecursion (λ t. t.tree ≢ tree → next t.tree ≡ db t.tree) tables

abbrev pub IsAlone : Schema → Keys → ℕ → Type 0
IsAlone schema keys tree = (olds news : List Row) → works schema keys 0 tree olds news ≡ []

module _ (limit : Option ℕ) (keys : Keys) (schema : Schema) (table : Table) (params : Row)
    (alone : IsAlone schema keys table.tree) where
  left : (db next : Trees) (gone : List ℤ) (news rows : List Row) (last : Option ℤ) (w : Written)
      → Edited schema keys db (record { table = uncounted table; gone = gone; news = news }) (Ok next)
      → w ≡ record { trees = next; rows = rows; last = last }
      → Applies schema keys db (record { table = uncounted table; gone = gone; news = news }) w.trees × (w.rows ≡ rows)
  left db next gone news rows last w h is =
      let edit : Edit = record { table = uncounted table; gone = gone; news = news } in
      let step = one_step schema keys db next edit (alone (taken_by db edit) news) h in grind (arith, nat_tests)

  pub inserted : (from : Source) (db : Trees) (w : Written)
      → Inserts (task_on limit keys schema table params) from db (Ok w)
      → (rows : List Row) × IsSource (record { schema = schema; trees = db }) (params ++ []) from rows
      × Applies schema keys db (edit_of db (uncounted table) [] Chosen 0 rows) w.trees
  inserted from db w h =
      let given = went h in let counted = went given.2 in let written = went counted.2 in let late = went written.2 in
      let news = (edit_of db (uncounted table) [] Chosen 0 given.0).news in
      let left_with : Trees → Written = λ t. record { trees = t; rows = news; last = last_id news } in
      let it = left db written.0 [] news news (last_id news) w written.1 (same_value late.2 ∙ ap left_with (same_value
      late.1)) in grind (arith, nat_tests)

  pub deleted : (q : Program) (db : Trees) (w : Written) → Deletes (task_on limit keys schema table params) q db (Ok w)
      → (rows : List Row) × Answers (record { schema = schema; trees = db }) q params rows
      × Applies schema keys db (edit_of db (uncounted table) (ids_of rows) Given 0 []) w.trees
      × (w.rows ≡ taken_by db (edit_of db (uncounted table) (ids_of rows) Given 0 []))
  deleted q db w h =
      let given = went h in let written = went given.2 in
      let it = left db written.0 (ids_of given.0) [] _ None w written.1 (same_value written.2) in
      (given.0, given.1, it.0, it.1)

  pub updated : (q : Program) (given : Row) (db : Trees) (w : Written)
      → Updates (task_on limit keys schema table params) q given db (Ok w)
      → (rows : List Row) × Answers (record { schema = schema; trees = db }) q given rows
      × Applies schema keys db (edit_of db (uncounted table) (ids_of rows) Given 1 rows) w.trees
  updated q given db w h =
      let found = went h in let written = went found.2 in
      let news = (edit_of db (uncounted table) (ids_of found.0) Given 1 found.0).news in
      let it = left db written.0 (ids_of found.0) news news None w written.1 (same_value written.2) in
      (found.0, found.1, it.0)

  pub put : (new : Row) (db : Trees) (w : Written) → Puts (task_on limit keys schema table params) new db (Ok w)
      → Applies schema keys db (edit_of db (uncounted table) [] Given 0 (new ∷ [])) w.trees
      × (w.rows ≡ (edit_of db (uncounted table) [] Given 0 (new ∷ [])).news)
  put new db w h =
      let written = went h in let news = (edit_of db (uncounted table) [] Given 0 (new ∷ [])).news in
      left db written.0 [] news news (last_id news) w written.1 (same_value written.2)

  -- the row that is tried
  abbrev pub candidate : Conflict → Trees → Row → Row
  candidate way db source =
      with_rowid Chosen (db table.tree) (cast_row (uncounted table) (mended way (uncounted table) source))

  -- what was tried with one row
  pub record Tried (way : Conflict) (clauses : List Upsert) (db : Trees) (w : Written) (new : Row) : Type 0 where
    pub one : Written
    pub trees : w.trees ≡ one.trees
    pub rows : w.rows ≡ one.rows
    pub verdict : Option Refusal
    pub judged : IsJudged (uncounted table) new verdict
    pub does : Judged (task_on limit keys schema table params) way clauses new db verdict (Ok one)

  abbrev After : Conflict → List Upsert → Trees → Written → List Row → Type 0
  After way clauses db w rows =
      let task = task_on limit keys schema table params in
      Then (Counter task db) (λ counter. Then (TriesEach task way clauses rows (count_of counter) (nothing db))
      (λ done. Then (Counts task done.0.trees counter done.1) (λ next. Gives (record done.0 { trees = next }))))
      (Ok w)

  pub tried : (way : Conflict) (clauses : List Upsert) (terms : List Term) (width : ℕ) (source new : Row) (db : Trees)
      (w : Written) → value_rows (params ++ []) width (length terms / width) terms ≡ source ∷ []
      → candidate way db source ≡ new
      → InsertsOr (task_on limit keys schema table params) way clauses (Values terms width) db (Ok w)
      → Tried way clauses db w new
  tried way clauses terms width source new db w is row h = grind (arith, nat_tests, went, option_or, same_value)

-- ---- from a statement's text to the rows that it writes

-- what a statement on the rows of a table did
pub record Wrote (schema : Schema) (table : Table) (params : Row) (command : Command) (old new : State)
    (count : ℕ) : Type 0 where
  pub written : Written
  pub does : WritesRows (task_on old.step_limit Enforced schema table params) old.now.trees command (Ok written)
  pub now : new.now ≡ record { schema = schema; trees = written.trees }
  pub counted : count ≡ length written.rows
  pub committed : new.committed ≡ (if old.in_transaction then old.committed else new.now)
  pub mode : new.in_transaction ≡ old.in_transaction

-- the command is one on the rows of the table at this place
abbrev pub IsOnRows : Command → ℕ → Type 0
IsOnRows command at =
    (limit : Option ℕ) (mode : Mode) (params : Row) (db : Database) (text : List ℕ) (p : Tally × Database)
    → Does limit mode params db text None command (Ok p)
    → OnTable limit mode params db at (λ task. OnRows task mode None command db.trees) (Ok p)

-- the text is this command on the rows of the table at this place
pub record IsWriting (schema : Schema) (text : List ℕ) (command : Command) (at : ℕ) (table : Table) : Type 1 where
  pub is : command_of (understood schema text) ≡ command
  pub plain : IsPlain (understood schema text)
  pub found : slice_get schema.tables at ≡ Some (uncounted table)
  pub on : IsOnRows command at
  pub runs : (old new : State) (text : List ℕ) (params : Row) (count : ℕ)
      → Runs old new None command text params count → Writes old new None command text params count

module _ {schema : Schema} {sql : List ℕ} {command : Command} {at : ℕ} {table : Table}
    (it : IsWriting schema sql command at table) (params : Row) (old new : State) (has : old.now.schema ≡ schema) where
  pub wrote : (count : ℕ) → Executes sql params old new (Ok count) → Wrote schema table params command old new count
  wrote count h =
      let text = statement_of sql (understood schema sql) in let mode = mode_of old in
      let w = it.runs old new text params count (runs_as sql params old new schema has command it.is it.plain count h) in
      let done = it.on old.step_limit mode params (record { schema = schema; trees = old.now.trees }) text (w.tally, new.now)
      (subst (λ s. Does old.step_limit mode params (record old.now { schema = s }) text None command
      (Ok (w.tally, new.now))) has w.changed) in
      let placed : OnRows (task_on old.step_limit Enforced schema table params) mode None command old.now.trees
      (Ok (w.tally, new.now)) = rw it.found at done in
      let rows = went placed in let tested = went rows.2 in let shown = went tested.2 in let same = same_value shown.2 in
      grind (arith, nat_tests)

-- what an INSERT of one row leaves
pub record Put (schema : Schema) (table : Table) (row : Row) (old new : State) : Type 0 where
  pub rows : new.now.trees table.tree ≡ put_row row (old.now.trees table.tree)
  pub tables : KeepOthers table.tree old.now.trees new.now.trees schema.tables
  pub schema_is : new.now.schema ≡ schema
  pub committed : new.committed ≡ (if old.in_transaction then old.committed else new.now)
  pub mode : new.in_transaction ≡ old.in_transaction

pub puts_one : {schema : Schema} {text : List ℕ} {terms : List Term} {width at : ℕ} {table : Table}
    → IsWriting schema text (Insert at (Values terms width)) at table → IsAlone schema Enforced table.tree
    → (params row : Row) (old new : State) → old.now.schema ≡ schema
    → (edit_of old.now.trees (uncounted table) [] Chosen 0
    (value_rows (params ++ []) width (length terms / width) terms)).news ≡ row ∷ []
    → (count : ℕ) → Executes text params old new (Ok count) → Put schema table row old new
puts_one {schema} {text} {terms} {width} {at} {table} write alone params row old new has news count h =
    let db = old.now.trees in let it = wrote write params old new has count h in
    let put = inserted old.step_limit Enforced schema table params alone (Values terms width) db it.written it.does in
    let trees : new.now.trees ≡ it.written.trees = ap (λ (d : Database). d.trees) it.now in
    record {
      rows = grind (arith, nat_tests, edited, edit_of);
      tables = subst (λ t. KeepOthers table.tree db t schema.tables) (sym trees) put.2.tables;
      schema_is = ap (λ (d : Database). d.schema) it.now;
      committed = it.committed;
      mode = it.mode;
    }

-- ---- what CREATE TABLE makes of a database whose tables are empty

-- the text makes this table, which counts no rowids
pub record IsCreation (schema : Schema) (text : List ℕ) (table : Table) : Type 0 where
  pub is : command_of (understood schema text) ≡ CreateTable
  pub whole : statement_of text (understood schema text) ≡ text
  pub defines : table_defined_by text ≡ Ok table
  pub plain : IsPlain (understood schema text)
  pub counts_none : lacks_sequence (created schema table) ≡ false

still_empty : (tables : List Table) (old new : Trees) → AllByRecursion (λ t. old t.tree ≡ []) tables
    → KeepsRows tables old new → AllByRecursion (λ t. new t.tree ≡ []) tables
still_empty [] old new none keeps = tt
still_empty (t ∷ tables) old new none keeps = (keeps.0 ∙ none.0, still_empty tables old new none.1 keeps.1)

-- a database in memory has no table when it is opened
pub opened : {E D : Type 0} (Q : E → Type 0) (r : Result (Held MemStore) E) (m : Result (Held MemStore) D)
    (conn : Held MemStore) → m ≡ Ok conn → IfOk r (λ c. IsEmpty (database c)) → IfOk r IsNew
    → MatchResult r (λ c. m ≡ Ok c) Q → is_ok m ≡ is_ok r → IsBlank no_schema (database conn)
opened Q (Ok c) m conn is empty fresh same ok = grind (arith, nat_tests)
opened Q (Err e) m conn is empty fresh same ok = grind (arith, nat_tests)

-- the table was made, and it has no row
pub record Created (schema : Schema) (table : Table) (old new : State) : Type 0 where
  pub schema_is : new.now.schema ≡ created schema table
  pub kept : KeepsRows schema.tables old.now.trees new.now.trees
  pub fresh : new.now.trees (next_tree schema) ≡ []
  pub committed : new.committed ≡ (if old.in_transaction then old.committed else new.now)
  pub mode : new.in_transaction ≡ old.in_transaction

module _ {schema : Schema} {text : List ℕ} {table : Table} (it : IsCreation schema text table) where
  pub made_table : (old new : State) (count : ℕ) → old.now.schema ≡ schema → Executes text [] old new (Ok count)
      → Created schema table old new
  made_table old new count has h =
      let ran = runs_as text [] old new schema has CreateTable it.is it.plain count h in
      grind (arith, nat_tests, went, created, lacks_sequence, same_value, next_tree)

  pub creates : (old new : Held MemStore) (r : Result ℕ Error) → IsBlank schema (database old)
      → (database new).step_limit ≡ (database old).step_limit
      → (HasCleanDisk (database new) → Executes text [] (database old) (database new) r)
      → OnOk r (IsBlank (created schema table) (database new))
  creates old new (Err e) has limit runs = tt
  creates old new (Ok count) has limit runs =
      let made = made_table (database old) (database new) count has.schema (runs (memory_is_clean new)) in
      grind (arith, nat_tests, all-append, next_tree, still_empty)
