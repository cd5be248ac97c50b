-- The lists of rows and of records, a line each.
use Rattle.std.specs.List.{starts_with}
use Rattle.std.specs.Str.{is_utf8}
use Rattle.std.specs.Option.{option_map}
use Rattle.std.specs.Prelude.{ℕ, ◌+◌, ◌==◌, ◌||◌, Bool, List, [], ◌∷◌, Option, None, Some, Result, Ok, Err, codes, drop, if◌then◌else◌, length, map, nat_eq, take}
use Rattle.bstr.specs.Text.{lines_of, without_terminator}
use Rattle.memchr.specs.Find.{first_of, matches}
use Rattle.uuid.specs.Text.{parsed}
use Rattle.kob_words.specs.Words.{decimal_in}
use Rattle.kob_topic_check.specs.declared.record.Record.{Record}
use Rattle.kob_topic_check.specs.declared.row.Row.{Row}

infixl 10 ◌>>=◌
abbrev pub ◌>>=◌ : {A B : Type 0} → Option A → (A → Option B) → Option B
None >>= next = None
Some x >>= next = next x

-- a comma or a tab
abbrev pub is_separator : ℕ → Bool
is_separator byte = byte == 44 || byte == 9

abbrev pub separated : List ℕ → List ℕ → Option (List ℕ × List ℕ)
separated id [] = None
separated id (byte ∷ key) = if is_separator byte then Some (id, key) else None

-- the 36 bytes of an id, and what stands behind the separator after them
abbrev pub parts_of : List ℕ → Option (List ℕ × List ℕ)
parts_of line = separated (take 36 line) (drop 36 line)

abbrev pub id_of : List ℕ → Option (List ℕ)
id_of text = parsed text

-- bytes that are UTF-8
abbrev pub text_of : List ℕ → Option (List ℕ)
text_of bytes = if is_utf8 bytes then Some bytes else None

-- ID,KEY
unfoldable pub row_of : List ℕ → Option Row
row_of line = do
  parts ← parts_of line
  id ← id_of parts.0
  key ← text_of parts.1
  Some (record { id = id; key = key })

abbrev pub parts_at : List ℕ → ℕ → Option ℕ → Option (List ℕ × List ℕ)
parts_at text size place = option_map (λ at. (take at text, drop (at + size) text)) place

-- what stands before and behind the first separator
unfoldable pub cut_at : List ℕ → List ℕ → Option (List ℕ × List ℕ)
cut_at by text = parts_at text (length by) (first_of (matches text by 0))

abbrev pub before_cut : List ℕ → Option (List ℕ × List ℕ) → List ℕ
before_cut text None = text
before_cut text (Some parts) = parts.0

-- what stands before a separator, or all
abbrev pub up_to : List ℕ → List ℕ → List ℕ
up_to by text = before_cut text (cut_at by text)

-- what stands behind a label at the beginning
abbrev pub behind : List ℕ → List ℕ → Option (List ℕ)
behind label text =
    if starts_with nat_eq text label then Some (drop (length label) text) else None

abbrev pub number_after : List ℕ → List ℕ → Option ℕ
number_after label text = behind label text >>= decimal_in

abbrev pub value_of : List ℕ → Option (List ℕ) → Option (List ℕ)
value_of headers (Some value) = Some value
value_of headers None = option_map (λ parts. parts.1) (cut_at (codes ",id:") headers)

-- the id in the header `id`; commas stand between two headers
abbrev pub header_id : List ℕ → Option (List ℕ)
header_id headers =
    value_of headers (behind (codes "id:") headers) >>= λ value. id_of (up_to (codes ",") value)

-- Partition:PARTITION, Offset:OFFSET and the headers, with tabs between them
unfoldable pub record_of : List ℕ → Option Record
record_of line = do
  first ← cut_at (codes "\t") line
  second ← cut_at (codes "\t") first.1
  partition ← number_after (codes "Partition:") first.0
  offset ← number_after (codes "Offset:") second.0
  id ← header_id (up_to (codes "\t") second.1)
  Some (record { partition = partition; offset = offset; id = id })

-- the lines of a text, without their ends
abbrev pub lines_in : List ℕ → List (List ℕ)
lines_in text = map without_terminator (lines_of text)

-- an item before others that were read, or the number of its line
abbrev pub then_more : {A : Type 0} → ℕ → Option A → Result (List A) ℕ → Result (List A) ℕ
then_more number None more = Err number
then_more number (Some item) (Ok items) = Ok (item ∷ items)
then_more number (Some item) (Err later) = Err later

-- the items of lines from one on, whose number is given,
-- or the number of the first line that is none
abbrev pub items_from : {A : Type 0} → (List ℕ → Option A) → ℕ → List (List ℕ) → Result (List A) ℕ
items_from read number [] = Ok []
items_from read number (line ∷ lines) =
    then_more number (read line) (items_from read (number + 1) lines)

-- the rows of a text, or the number of the first line that is none; the first line is 1
abbrev pub rows_in : List ℕ → Result (List Row) ℕ
rows_in text = items_from row_of 1 (lines_in text)

abbrev pub records_in : List ℕ → Result (List Record) ℕ
records_in text = items_from record_of 1 (lines_in text)
