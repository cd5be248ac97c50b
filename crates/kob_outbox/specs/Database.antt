-- The tables of a service, and a database that has them.
use Rattle.std.specs.Prelude.{[], ℕ, true, false, List, ◌∷◌, Option, Some, None, codes, ◌≡◌, length, IsTrue}
use Rattle.sqlite.specs.Collation.TheVariants.{Binary}
use Rattle.sqlite.specs.declared.types.Value.TheVariants.{Null}
use Rattle.sqlite.specs.Kind.{Kind}
use Rattle.sqlite.specs.Kind.TheVariants.{Integer, Text, Any}
use Rattle.sqlite_schema.specs.declared.schema.Column.{Column}
use Rattle.sqlite_value.specs.declared.keys.Order.{Order}
use Rattle.sqlite.specs.Table.{Table}
use Rattle.sqlite.specs.Schema.{Schema}
use Rattle.sqlite_catalog.specs.Change.{created}
use Rattle.std.specs.List.{AllByRecursion}
use Rattle.sqlite.specs.State.{State}
use Rattle.sqlite.specs.Tree.{Trees}
use Rattle.sqlite.specs.Effect.{Database}
use Rattle.sqlite.specs.Held.{Held, state}
use Rattle.sqlite.specs.Steps.{over_memory}
use Rattle.sqlite_trees.specs.declared.memory.MemStore.{MemStore}
use Rattle.kob_outbox.specs.Contents.{Contents, is_recorded, with_id}
use Rattle.kob_outbox.specs.Layout.{Holds, contents_in}

-- a column that takes no NULL
abbrev pub required_column : List ℕ → Kind → Column
required_column name kind = record {
  name = name;
  kind = kind;
  is_strict = false;
  not_null = true;
  default = Null;
  collation = Binary;
}

-- a column that is the number of its row
abbrev pub numbering : List ℕ → Column
numbering name = required_column name Integer

-- a table that is not in a schema yet
abbrev pub table_of : List ℕ → List Column → Option ℕ → List ℕ → List (List ℕ) → List Order → Table
table_of name columns key primary uniques orders = record {
  name = name;
  tree = 0;
  columns = columns;
  key = key;
  primary = primary;
  uniques = uniques;
  orders = orders;
  checks = [];
  references = [];
  computed = [];
  stamps = record { places = []; terms = []; formats = [] };
  is_counted = false;
}

-- keys are ordered by their bytes
abbrev pub by_bytes : Order
by_bytes = record { digits = 0 }

-- business (kind, id, state), with the key (kind, id)
abbrev pub business : Table
business =
    table_of (codes "business") (required_column (codes "kind") Text
    ∷ required_column (codes "id") Text
    ∷ required_column (codes "state") Text ∷ []) None (1 ∷ 2 ∷ []) ((1 ∷ 2 ∷ []) ∷ [])
    (by_bytes ∷ [])

-- outbox (seq, id, aggregatetype, aggregateid, type, payload), numbered by seq
abbrev pub outbox : Table
outbox =
    table_of (codes "outbox")
    (numbering (codes "seq") ∷ required_column (codes "id") Text
    ∷ required_column (codes "aggregatetype") Text
    ∷ required_column (codes "aggregateid") Text ∷ required_column (codes "type") Text
    ∷ required_column (codes "payload") Any ∷ [])
    (Some 0) (0 ∷ []) ((2 ∷ []) ∷ []) (by_bytes ∷ [])

-- spent (id, seq), with the key id
abbrev pub spent : Table
spent = table_of (codes "spent") (required_column (codes "id") Text
    ∷ required_column (codes "seq") Integer ∷ [])
    None (1 ∷ []) ((1 ∷ []) ∷ []) (by_bytes ∷ [])

-- mark (one, upto), of one row
abbrev pub mark : Table
mark = table_of (codes "mark") (numbering (codes "one") ∷ required_column (codes "upto") Integer
    ∷ [])
    (Some 0) (0 ∷ []) [] []

-- before the first table is made
abbrev pub no_schema : Schema
no_schema = record { tables = []; indexes = []; views = [] }

-- once business is made
abbrev pub one_table : Schema
one_table = created no_schema business

-- once spent is made too
abbrev pub two_tables : Schema
two_tables = created one_table spent

-- once mark is made too
abbrev pub three_tables : Schema
three_tables = created two_tables mark

-- the schema of a service
abbrev pub service_schema : Schema
service_schema = created three_tables outbox

-- the four tables as they are in the schema
abbrev pub business_table : Table
business_table = record business { tree = 0 }

-- the table outbox in that schema
abbrev pub outbox_table : Table
outbox_table = record outbox { tree = 5 }

-- the table spent in it
abbrev pub spent_table : Table
spent_table = record spent { tree = 2 }

-- the table mark in it
abbrev pub mark_table : Table
mark_table = record mark { tree = 4 }

-- ---- a database between its statements

-- the database has these tables and such rows, and no transaction is open
pub record IsAtRest (tables : Schema) (Rows : Trees → Type 0) (s : State) : Type 0 where
  pub schema : s.now.schema ≡ tables
  pub settled : s.committed ≡ s.now
  pub idle : s.in_transaction ≡ false
  pub unlimited : s.step_limit ≡ None
  pub holds : Rows s.now.trees

-- a database with this schema, all of whose tables are empty
abbrev pub IsBlank : Schema → State → Type 0
IsBlank schema = IsAtRest schema (λ trees. AllByRecursion (λ t. trees t.tree ≡ []) schema.tables)

-- ---- a database that is a service's

-- what a connection shows of its database
abbrev pub database : Held MemStore → State
database conn = state over_memory conn

-- the contents of a database
abbrev pub contents_of : State → Contents
contents_of s = contents_in s.now.trees

-- the contents of a connection's tables
abbrev pub contents : Held MemStore → Contents
contents conn = contents_of (database conn)

-- the database is the service's, between its statements
abbrev pub IsService : State → Type 0
IsService = IsAtRest service_schema (λ trees. Holds (contents_in trees) trees)

-- the database is the service's, and these are the last number that was given and the mark
pub record HasNumbers (last mark : ℕ) (s : State) : Type 0 where
  pub service : IsService s
  pub last_is : last ≡ length (contents_of s).ids
  pub mark_is : mark ≡ (contents_of s).mark

-- the same in a transaction, in which statements have changed it
pub record IsChanging (s : State) : Type 0 where
  pub schema : s.now.schema ≡ service_schema
  pub begun : IsTrue s.in_transaction
  pub unlimited : s.step_limit ≡ None
  pub holds : Holds (contents_in s.now.trees) s.now.trees

-- each statement in a transaction leaves the last commit and the limit on steps
abbrev pub KeepsLast : State → State → Type 0
KeepsLast old new =
    ◌≡◌ {A = Database × Option ℕ}
    (new.committed, new.step_limit) (old.committed, old.step_limit)

-- what the statement that spends an id did: it wrote a row, or found the id
pub record Spends (id : List ℕ) (old new : State) (count : ℕ) : Type 0 where
  pub changing : IsChanging new
  pub fresh : ¬ (count ≡ 0) → (is_recorded (contents_of old).ids id ≡ false)
      × (contents_of new ≡ with_id (contents_of old) id)
  pub again : count ≡ 0 → is_recorded (contents_of old).ids id ≡ true
