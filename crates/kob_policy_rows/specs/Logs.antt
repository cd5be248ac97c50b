-- The answer about a broker's log: how many accesses it records, the rows of those that the rules
-- decide otherwise, and of the bindings that decide none.
use Rattle.std.specs.Prelude.{ℕ, Bool, List, [], ◌∷◌, ◌++◌, None, Some, codes, filter, flat_map, if◌then◌else◌, length}
use Rattle.std.specs.Fmt.{decimal}
use Rattle.json.specs.Print.{print}
use Rattle.json.specs.Token.{Token, begin_object, end_object, begin_array, end_array, key, string, number}
use Rattle.kob_policy_text.specs.LogAnswers.{is_decider, is_otherwise, skipped_lines, verdict_on}
use Rattle.kob_policy_text.specs.LogLines.{Log, log_of}
use Rattle.kob_policy_text.specs.Numbered.{numbered}
use Rattle.kob_policy_text.specs.Policy.{Policy, serials_of}
use Rattle.kob_policy_text.specs.declared.log_line.Recorded.{Recorded}
use Rattle.kob_policy_text.specs.declared.log_reading.Entry.{Entry}
use Rattle.kob_policy_text.specs.declared.question.Asker.{Asker}
use Rattle.kob_policy_rows.specs.Answers.{right_cells}
use Rattle.kob_policy_rows.specs.Cells.{bound_at, verdict_cells}
use Rattle.kob_policy_rows.specs.Columns.{access_columns, binding_columns, column_name}
use Rattle.kob_policy_rows.specs.Json.{number_tokens, question_tokens, row_tokens}
use Rattle.kob_policy_rows.specs.declared.cell.Cell.{Cell}
use Rattle.kob_policy_rows.specs.declared.cell.Cell.TheVariants.{Flag, Number, Words}
use Rattle.kob_policy_rows.specs.declared.columns.Column.{Column}
use Rattle.kob_policy_rows.specs.declared.columns.Column.TheVariants as column

abbrev pub asker_cells : Asker → List Cell
asker_cells asker = Words asker.principal ∷ Words asker.host ∷ []

-- who asked for what, and what the broker said
unfoldable pub recorded_cells : Recorded → List Cell
recorded_cells recorded =
    asker_cells recorded.asker ++ right_cells recorded.right ++ Flag recorded.allowed ∷ []

-- the line of the log, the access, and what is decided on it
unfoldable pub entry_row : Policy → Entry → List Cell
entry_row policy entry =
    Number entry.line ∷ (recorded_cells entry.recorded
    ++ verdict_cells policy (verdict_on policy entry))

abbrev pub otherwise_row : Policy → Entry → List (List Cell)
otherwise_row policy entry =
    if is_otherwise policy entry then entry_row policy entry ∷ [] else []

-- the accesses that the rules decide otherwise than the broker did
abbrev pub otherwise_rows : Policy → List Entry → List (List Cell)
otherwise_rows policy accesses = flat_map (otherwise_row policy) accesses

-- the binding at a place, unless its serial is one of some
abbrev pub idle_row : Policy → (ℕ → Bool) → ℕ → ℕ → List (List Cell)
idle_row policy among place serial =
    if among serial then [] else bound_at policy None (Some place)

-- the bindings that decide none of the accesses
abbrev pub idle_in : Policy → List Entry → List (List Cell)
idle_in policy accesses =
    numbered (idle_row policy (is_decider policy accesses)) 0 (serials_of policy)

-- an array of objects
unfoldable pub array_tokens : List ℕ → List Column → List (List Cell) → List Token
array_tokens name columns rows =
    key name ∷ begin_array ∷ (flat_map (row_tokens columns) rows ++ end_array ∷ [])

unfoldable pub count_tokens : Column → ℕ → List Token
count_tokens column count = key (column_name column) ∷ number (decimal count) ∷ []

unfoldable pub counts_tokens : Policy → Log → List Token
counts_tokens policy log =
    count_tokens column.Accesses (length log.accesses)
    ++ count_tokens column.Otherwise (length (filter (is_otherwise policy) log.accesses))
    ++ count_tokens column.LeftOut (length log.others)
    ++ count_tokens column.SkippedLines (skipped_lines log)

-- number, question and kind
unfoldable pub asked_tokens : ℕ → List ℕ → List Token
asked_tokens count file =
    number_tokens count ++ question_tokens (codes "log " ++ file)
    ++ key (codes "kind") ∷ string (codes "log") ∷ []

unfoldable pub listed_tokens : Policy → List Entry → List Token
listed_tokens policy accesses =
    array_tokens (codes "rows") access_columns (otherwise_rows policy accesses)
    ++ array_tokens (codes "idle") binding_columns (idle_in policy accesses)

abbrev pub log_tokens : Policy → ℕ → List ℕ → Log → List Token
log_tokens policy count file log =
    begin_object ∷ (asked_tokens count file ++ counts_tokens policy log
    ++ listed_tokens policy log.accesses ++ end_object ∷ [])

-- the answer about the text of a log, behind its number and its question
abbrev pub log_line : Policy → ℕ → List ℕ → List ℕ → List ℕ
log_line policy count file text = print (log_tokens policy count file (log_of text)) ++ codes "\n"
