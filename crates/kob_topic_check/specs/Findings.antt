-- What a topic has of the rows of an outbox. Rows are in the order in which they were recorded,
-- records in the order in which they were read.
use Rattle.std.specs.Fmt.{decimal}
use Rattle.std.specs.Int.{from_be_bytes, w128}
use Rattle.std.specs.List.{find, list_any}
use Rattle.std.specs.Option.{is_some, option_and_then, option_map}
use Rattle.std.specs.Prelude.{ℕ, ◌==◌, ◌&&◌, Bool, true, false, List, [], ◌∷◌, ◌++◌, Option, None, Some, codes, if◌then◌else◌, length, nat_lt}
use Rattle.std.specs.Str.{bytes_eq}
use Rattle.uuid.specs.Text.{hyphenated_text, lower}
use Rattle.kob_words.specs.Words.{bytes_text}
use Rattle.kob_topic_check.specs.declared.record.Record.{Record}
use Rattle.kob_topic_check.specs.declared.row.Row.{Row}

-- a UUID as a number
abbrev pub number_of : List ℕ → ℕ
number_of id = from_be_bytes w128 id

abbrev pub is_of : ℕ → Record → Bool
is_of id one = number_of one.id == id

-- the first record of an event
abbrev pub first_of : ℕ → List Record → Option Record
first_of id records = find (is_of id) records

-- the row has the key, and its event a record
abbrev pub is_sent : List ℕ → List Record → Row → Bool
is_sent key records row = bytes_eq row.key key && is_some (first_of (number_of row.id) records)

-- the event of the last of these rows that has the key and a record; the last row comes first
abbrev pub sent_last : List ℕ → List Record → List Row → Option ℕ
sent_last key records before =
    option_map (λ row. number_of row.id) (find (is_sent key records) before)

-- the first record of an event, if there is one
abbrev pub record_at : List Record → Option ℕ → Option Record
record_at records event = option_and_then (λ id. first_of id records) event

-- ID
abbrev pub id_text : List ℕ → List ℕ
id_text id = codes " " ++ hyphenated_text lower id

-- ID partition PARTITION offset OFFSET
abbrev pub record_text : Record → List ℕ
record_text one =
    id_text one.id ++ codes " partition " ++ decimal one.partition
    ++ codes " offset " ++ decimal one.offset

-- what is wrong with a record, and another record
abbrev pub pair_text : List ℕ → Record → Record → List ℕ
pair_text wrong one other =
    wrong ++ record_text one ++ codes ", before it" ++ record_text other ++ codes "\n"

-- the record of a row, and that of the row of its key that was sent before it
abbrev pub order_text : Record → Record → List ℕ
order_text one earlier =
    if one.partition == earlier.partition
    then (if nat_lt one.offset earlier.offset
    then pair_text (codes "out of order") earlier one else [])
    else pair_text (codes "apart") one earlier

abbrev pub missing_text : Row → List ℕ
missing_text row =
    codes "missing" ++ id_text row.id ++ codes " key " ++ bytes_text row.key ++ codes "\n"

-- a row, its first record, and that of the row of its key that was sent before it
abbrev pub row_text : Row → Option Record → Option Record → List ℕ
row_text row None earlier = missing_text row
row_text row (Some one) None = []
row_text row (Some one) (Some earlier) = order_text one earlier

-- of the rows behind these, of which the last comes first
abbrev pub rows_text : List Record → List Row → List Row → List ℕ
rows_text records before [] = []
rows_text records before (row ∷ rows) =
    row_text row (first_of (number_of row.id) records)
    (record_at records (sent_last row.key records before))
    ++ rows_text records (row ∷ before) rows

abbrev pub has_row : ℕ → List Row → Bool
has_row id rows = list_any (λ row. number_of row.id == id) rows

-- a record, whether a row has its event, and the last record of the event before it
abbrev pub event_text : Record → Bool → Option Record → List ℕ
event_text one known (Some earlier) = pair_text (codes "doubled") one earlier
event_text one true None = []
event_text one false None = codes "unknown" ++ record_text one ++ codes "\n"

-- of the records behind these, of which the last comes first
abbrev pub records_text : List Row → List Record → List Record → List ℕ
records_text rows before [] = []
records_text rows before (one ∷ records) =
    event_text one (has_row (number_of one.id) rows) (find (is_of (number_of one.id)) before)
    ++ records_text rows (one ∷ before) records

-- rows ROWS records RECORDS
abbrev pub counts_text : List Row → List Record → List ℕ
counts_text rows records =
    codes "rows " ++ decimal (length rows) ++ codes " records " ++ decimal (length records)
    ++ codes "\n"

-- a line for each missing, misplaced, doubled and unknown event
abbrev pub findings_text : List Row → List Record → List ℕ
findings_text rows records = rows_text records [] rows ++ records_text rows [] records
