-- Answers as JSON, an object on a line.
use Rattle.std.specs.Prelude.{ℕ, List, [], ◌∷◌, ◌++◌, codes, flat_map, zip, if◌then◌else◌}
use Rattle.std.specs.Fmt.{decimal}
use Rattle.std.specs.Str.{is_utf8}
use Rattle.json.specs.Print.{print}
use Rattle.json.specs.Token.{Token, begin_object, end_object, begin_array, end_array, key, string, number, boolean, null}
use Rattle.kob_policy_text.specs.Access.{is_allowed}
use Rattle.kob_policy_text.specs.Hints.{is_named}
use Rattle.kob_policy_text.specs.Numbered.{numbered}
use Rattle.kob_policy_text.specs.Policy.{Policy}
use Rattle.kob_policy_text.specs.declared.question.Access.{Access}
use Rattle.kob_policy_text.specs.declared.question.Query.{Query}
use Rattle.kob_policy_text.specs.declared.question.Question.{Question}
use Rattle.kob_policy_text.specs.declared.question.Question.TheVariants.{May, Expect, Who, WhoConsumes, WhoBelow, Rights, Sees, Summary, Unused, Shadowed, Removable}
use Rattle.kob_policy_rows.specs.Answers.{rows_of}
use Rattle.kob_policy_rows.specs.Columns.{column_name, columns_of, kind_of}
use Rattle.kob_policy_rows.specs.declared.cell.Cell.{Cell}
use Rattle.kob_policy_rows.specs.declared.cell.Cell.TheVariants.{Flag, Nothing, Number, Words}
use Rattle.kob_policy_rows.specs.declared.columns.Column.{Column}
use Rattle.kob_policy_rows.specs.declared.columns.Column.TheVariants as column
use Rattle.kob_words.specs.Words.{bytes_text}

abbrev pub cell_token : Cell → Token
cell_token (Words text) = string text
cell_token (Number count) = number (decimal count)
cell_token (Flag flag) = boolean flag
cell_token Nothing = null

-- a column's name with the cell below it
abbrev pub member_tokens : Column × Cell → List Token
member_tokens member = key (column_name member.0) ∷ cell_token member.1 ∷ []

-- a row as an object
unfoldable pub row_tokens : List Column → List Cell → List Token
row_tokens columns row =
    begin_object ∷ (flat_map member_tokens (zip columns row) ++ end_object ∷ [])

abbrev pub row_line : List Column → List Cell → List ℕ
row_line columns row = print (row_tokens columns row) ++ codes "\n"

-- rows, an object on a line
abbrev pub lines_text : List Column → List (List Cell) → List ℕ
lines_text columns rows = flat_map (row_line columns) rows

-- a question as it was asked; bytes that are no text are escaped as those of names are
abbrev pub shown_text : List ℕ → List ℕ
shown_text text = if is_utf8 text then text else bytes_text text

-- the answer to `may`, and whether a binding names who asks
abbrev pub access_tokens : Policy → Access → List Token
access_tokens policy access =
    key (column_name column.Answer) ∷ boolean (is_allowed policy access)
    ∷ key (column_name column.Named) ∷ boolean (is_named policy access.asker.principal) ∷ []

-- a yes or no, where the question has one
abbrev pub verdict_tokens : Policy → Question → List Token
verdict_tokens policy (May access) = access_tokens policy access
verdict_tokens policy (Expect expected access) =
    key (column_name column.Expected) ∷ boolean expected ∷ access_tokens policy access
verdict_tokens policy (Who right host) = []
verdict_tokens policy (WhoConsumes topic group) = []
verdict_tokens policy (WhoBelow right) = []
verdict_tokens policy (Rights principal host) = []
verdict_tokens policy (Sees asker) = []
verdict_tokens policy Summary = []
verdict_tokens policy Unused = []
verdict_tokens policy Shadowed = []
verdict_tokens policy Removable = []

unfoldable pub number_tokens : ℕ → List Token
number_tokens count = key (codes "number") ∷ number (decimal count) ∷ []

unfoldable pub question_tokens : List ℕ → List Token
question_tokens text = key (codes "question") ∷ string (shown_text text) ∷ []

unfoldable pub kind_tokens : Question → List Token
kind_tokens question = key (codes "kind") ∷ string (kind_of question) ∷ []

-- number, question and kind
unfoldable pub query_tokens : ℕ → Query → List Token
query_tokens count query =
    number_tokens count ++ question_tokens query.text ++ kind_tokens query.question

-- the rows of the answer
unfoldable pub rows_tokens : Policy → List (List ℕ) → Question → List Token
rows_tokens policy topics question =
    key (codes "rows") ∷ begin_array
    ∷ (flat_map (row_tokens (columns_of question)) (rows_of policy topics question)
    ++ end_array ∷ [])

abbrev pub answer_tokens : Policy → List (List ℕ) → ℕ → Query → List Token
answer_tokens policy topics count query =
    begin_object ∷ (query_tokens count query ++ verdict_tokens policy query.question
    ++ rows_tokens policy topics query.question ++ end_object ∷ [])

-- an answer, behind its number and its question
unfoldable pub answer_line : Policy → List (List ℕ) → ℕ → Query → List ℕ
answer_line policy topics count query =
    print (answer_tokens policy topics count query) ++ codes "\n"

-- the answers, numbered from one on
abbrev pub answers_json : Policy → List (List ℕ) → ℕ → List Query → List ℕ
answers_json policy topics count queries = numbered (answer_line policy topics) count queries

abbrev pub file_tokens : List ℕ → List Token
file_tokens file = string file ∷ []

-- the names of the files of lists
unfoldable pub files_tokens : List (List ℕ) → List Token
files_tokens files =
    begin_object ∷ key (codes "files") ∷ begin_array
    ∷ (flat_map file_tokens files ++ end_array ∷ end_object ∷ [])

abbrev pub files_line : List (List ℕ) → List ℕ
files_line files = print (files_tokens files) ++ codes "\n"
