-- The table of a consumer, how the events are kept in its rows, and a database that has it.
use Rattle.std.specs.Prelude.{false, List, [], ◌∷◌, ℕ, Some, codes, ◌≡◌, ◌<◌, ◌^◌, length, pos, map, Option, None}
use Rattle.sqlite.specs.Kind.{Kind}
use Rattle.sqlite.specs.Kind.TheVariants.{Integer, Text, Any}
use Rattle.sqlite_schema.specs.declared.schema.Column.{Column}
use Rattle.sqlite.specs.Table.{Table}
use Rattle.sqlite.specs.Schema.{Schema}
use Rattle.sqlite_catalog.specs.Change.{created}
use Rattle.kob_outbox.specs.Database.{by_bytes, no_schema, numbering, required_column, table_of, IsAtRest, database}
use Rattle.std.specs.List.{AllByRecursion, enumerate_from}
use Rattle.std.specs.Str.{IsUtf8}
use Rattle.sqlite.specs.declared.types.Value.{Value}
use Rattle.sqlite.specs.declared.types.Value.TheVariants.{Null, Int, Text, Blob}
use Rattle.sqlite.specs.Order.{Row}
use Rattle.sqlite.specs.Tree.{Trees}
use Rattle.sqlite_value.specs.Order.{column}
use Rattle.uuid.specs.Text.{parsed}
use Rattle.kob_outbox.specs.Contents.{id_text}
use Rattle.kob_outbox.specs.Layout.{blob_in, text_in, number_in}
use Rattle.kob_inbox.specs.Contents.{Contents, Intake, IsOnce}
use Rattle.sqlite.specs.Held.{Held}
use Rattle.sqlite.specs.State.{State}
use Rattle.sqlite_trees.specs.declared.memory.MemStore.{MemStore}

-- a column that may be NULL
abbrev pub optional : List ℕ → Kind → Column
optional name kind = record (required_column name kind) { not_null = false }

-- its columns
abbrev pub columns : List Column
columns =
    numbering (codes "place") ∷ required_column (codes "id") Text
    ∷ required_column (codes "topic") Text
    ∷ required_column (codes "part") Integer ∷ required_column (codes "off") Integer
    ∷ optional (codes "rkey") Any ∷ required_column (codes "rvalue") Any ∷ []

-- inbox (place, id, topic, part, off, rkey, rvalue), numbered by place
abbrev pub inbox : Table
inbox = table_of (codes "inbox") columns (Some 0) (0 ∷ []) ((2 ∷ []) ∷ []) (by_bytes ∷ [])

-- the schema of a consumer
abbrev pub inbox_schema : Schema
inbox_schema = created no_schema inbox

-- the table as it is in the schema
abbrev pub inbox_table : Table
inbox_table = record inbox { tree = 0 }

-- ---- how the events are kept in the rows of the table

-- the tree of the table's rows
abbrev pub inbox_tree : ℕ
inbox_tree = 0

-- the key in a value
abbrev pub key_in : Value → Option (List ℕ)
key_in (Blob b) = Some b
key_in _ = None

-- the event in a row
abbrev pub intake_in : Row → Intake
intake_in row = record {
  id = text_in (column row 2);
  topic = text_in (column row 3);
  partition = number_in (column row 4);
  offset = number_in (column row 5);
  key = key_in (column row 6);
  value = blob_in (column row 7);
}

-- the events as they are read off the table
abbrev pub contents_in : Trees → Contents
contents_in trees = map intake_in (trees inbox_tree)

-- a key as a value, where there is one
abbrev pub key_value : Option (List ℕ) → Value
key_value None = Null
key_value (Some key) = Blob key

-- the values of an event, in the order of the columns behind its place
abbrev pub values_of : Intake → Row
values_of e =
    Text e.id ∷ Text e.topic ∷ Int (pos e.partition) ∷ Int (pos e.offset) ∷ key_value e.key
    ∷ Blob e.value ∷ []

-- the row of an event at a place, which is the table's key
abbrev pub placed_row : ℕ × Intake → Row
placed_row p = Int (pos p.0) ∷ Null ∷ values_of p.1

-- the event's fields can be read back
pub record IsReadable (e : Intake) : Type 0 where
  pub uuid : List ℕ
  pub id : e.id ≡ id_text uuid
  pub parses : Some uuid ≡ parsed e.id
  pub text : IsUtf8 e.id
  pub topic : IsUtf8 e.topic
  pub partition : e.partition < 2 ^ 63
  pub offset : e.offset < 2 ^ 63

-- the tree holds these events at their places
pub record Holds (events : Contents) (trees : Trees) : Type 0 where
  pub rows : trees inbox_tree ≡ map placed_row (enumerate_from 1 events)
  -- each place fits the database
  pub room : length events < 2 ^ 63
  pub once : IsOnce events
  pub readable : AllByRecursion IsReadable events

-- an event as a query shows it, behind its place
abbrev pub shown_intake : ℕ × Intake → Row
shown_intake p = Int (pos p.0) ∷ values_of p.1

-- a row shows a readable event
pub record IsShown (row : Row) : Type 0 where
  pub place : ℕ
  pub event : Intake
  pub is : row ≡ shown_intake (place, event)
  pub readable : IsReadable event

-- ---- a database that is a consumer's

-- the events in a connection's table
abbrev pub contents : Held MemStore → Contents
contents conn = contents_in (database conn).now.trees

-- the database is an inbox, between its statements
abbrev pub IsInbox : State → Type 0
IsInbox = IsAtRest inbox_schema (λ trees. Holds (contents_in trees) trees)

-- the database is an inbox, and this is the last place that was taken
pub record HasLast (last : ℕ) (s : State) : Type 0 where
  pub inbox : IsInbox s
  pub last_is : last ≡ length (contents_in s.now.trees)
