-- Rows as comma-separated values (RFC 4180): a line of names, and a line for each row.
use Rattle.std.specs.Prelude.{ℕ, Bool, true, false, List, [], ◌∷◌, ◌++◌, ◌||◌, ◌==◌, codes, flat_map, if◌then◌else◌}
use Rattle.std.specs.Fmt.{decimal}
use Rattle.std.specs.List.{list_any}
use Rattle.kob_policy_rows.specs.Answers.{rows_of}
use Rattle.kob_policy_rows.specs.Columns.{column_name, columns_of}
use Rattle.kob_policy_rows.specs.declared.cell.Cell.{Cell}
use Rattle.kob_policy_rows.specs.declared.cell.Cell.TheVariants.{Flag, Nothing, Number, Words}
use Rattle.kob_policy_rows.specs.declared.columns.Column.{Column}
use Rattle.kob_policy_text.specs.Policy.{Policy}
use Rattle.kob_policy_text.specs.declared.question.Query.{Query}

-- a comma, a quote, a carriage return or a line feed stands between quotes
abbrev pub is_special : ℕ → Bool
is_special byte = (byte == 44 || byte == 34) || (byte == 13 || byte == 10)

-- a quote is written twice between quotes
abbrev pub quoted_byte : ℕ → List ℕ
quoted_byte byte = if byte == 34 then 34 ∷ 34 ∷ [] else byte ∷ []

abbrev pub words_text : List ℕ → List ℕ
words_text text =
    if list_any is_special text then codes "\"" ++ flat_map quoted_byte text ++ codes "\"" else text

abbrev pub flag_text : Bool → List ℕ
flag_text true = codes "true"
flag_text false = codes "false"

-- nothing is an empty field
abbrev pub cell_text : Cell → List ℕ
cell_text (Words text) = words_text text
cell_text (Number count) = decimal count
cell_text (Flag flag) = flag_text flag
cell_text Nothing = []

abbrev pub behind_comma : Cell → List ℕ
behind_comma cell = codes "," ++ cell_text cell

abbrev pub cells_text : List Cell → List ℕ
cells_text [] = []
cells_text (first ∷ others) = cell_text first ++ flat_map behind_comma others

unfoldable pub row_line : List Cell → List ℕ
row_line row = cells_text row ++ codes "\r\n"

abbrev pub name_behind_comma : Column → List ℕ
name_behind_comma column = codes "," ++ column_name column

abbrev pub names_text : List Column → List ℕ
names_text [] = []
names_text (first ∷ others) = column_name first ++ flat_map name_behind_comma others

unfoldable pub head_line : List Column → List ℕ
head_line columns = names_text columns ++ codes "\r\n"

-- the names of the columns, and then the rows
abbrev pub table_text : List Column → List (List Cell) → List ℕ
table_text columns rows = head_line columns ++ flat_map row_line rows

unfoldable pub answer_text : Policy → List (List ℕ) → Query → List ℕ
answer_text policy topics query =
    table_text (columns_of query.question) (rows_of policy topics query.question)

-- the table of each answer
abbrev pub answers_csv : Policy → List (List ℕ) → List Query → List ℕ
answers_csv policy topics queries = flat_map (answer_text policy topics) queries
