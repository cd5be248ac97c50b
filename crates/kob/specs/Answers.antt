-- What is printed about lists, in each form.
use Rattle.std.specs.Prelude.{◌≡◌, ◌⊎◌, ℕ, ◌+◌, ◌==◌, ◌&&◌, Bool, List, [], ◌∷◌, ◌++◌, codes, if◌then◌else◌, length, map}
use Rattle.std.specs.Fmt.{decimal}
use Rattle.std.specs.List.{flat_map}
use Rattle.kob.specs.Ending.{IsFailure, ending_of_answers, ending_of_changes, worse}
use Rattle.kob.specs.Commands.{commands_text}
use Rattle.kob.specs.declared.ending.Ending.{Ending}
use Rattle.kob.specs.declared.ending.Ending.TheVariants.{Whole, Failed}
use Rattle.kob.specs.declared.policy_options.AnswerForm.{AnswerForm}
use Rattle.kob.specs.declared.policy_options.AnswerForm.TheVariants as form
use Rattle.kob.specs.declared.policy_options.Options.{Options}
use Rattle.kob_policy_rows.specs.Changes.{change_rows, fault_row, omission_row}
use Rattle.kob_policy_rows.specs.Columns.{change_columns, fault_columns, omission_columns}
use Rattle.kob_policy_rows.specs.Csv.{answers_csv, table_text}
use Rattle.kob_policy_rows.specs.Json.{answers_json, files_line, lines_text}
use Rattle.kob_policy_rows.specs.Logs.{log_line}
use Rattle.kob_policy_text.specs.Answers.{omissions_text}
use Rattle.kob_policy_text.specs.LogAnswers.{differs, log_text}
use Rattle.kob_policy_text.specs.Moved.{moved_text}
use Rattle.kob_policy_text.specs.Policy.{Policy}
use Rattle.kob_policy_text.specs.Review.{answers_text, changes_text}
use Rattle.kob_policy_text.specs.declared.question.Query.{Query}
use Rattle.kob_script.specs.Printed.{fault_text, kind_text}
use Rattle.kob_script.specs.declared.fault.Fault.{Fault}
use Rattle.kob_script.specs.declared.fault.ScriptError.{ScriptError}
use Rattle.kob_script.specs.declared.fault.ScriptError.TheVariants as script_error

abbrev pub answers_in : AnswerForm → Policy → List (List ℕ) → List Query → List ℕ
answers_in form.Words policy topics queries = answers_text policy topics 1 queries
answers_in form.Json policy topics queries = answers_json policy topics 1 queries
answers_in form.Csv policy topics queries = answers_csv policy topics queries

abbrev pub changes_in : AnswerForm → Policy → Policy → List ℕ
changes_in form.Words before after = moved_text before after ++ changes_text before after
changes_in form.Json before after = lines_text change_columns (change_rows before after)
changes_in form.Csv before after = table_text change_columns (change_rows before after)

-- NUMBER log FILE, and the answer below it
abbrev pub log_words : Policy → ℕ → List ℕ → List ℕ → List ℕ
log_words policy number file text =
    (decimal number ++ codes " log " ++ file ++ codes "\n") ++ log_text policy text

-- a table has no form of it
abbrev pub log_in : AnswerForm → Policy → ℕ → List ℕ → List ℕ → List ℕ
log_in form.Words policy number file text = log_words policy number file text
log_in form.Json policy number file text = log_line policy number file text
log_in form.Csv policy number file text = log_words policy number file text

module _ (form : AnswerForm) (policy : Policy) where
  -- The answer about the log of a file: one text of it says what is printed and how it ends. A file that
  -- was not read is reported, and nothing is printed.
  abbrev pub IsLogAnswer : ℕ → List ℕ → List ℕ → List ℕ → Ending → Type 0
  IsLogAnswer number file before after ending =
      (IsFailure ending × (after ≡ before))
      ⊎ ((text : List ℕ) × ((ending ≡ ending_of_answers (differs policy text))
      × (after ≡ before ++ log_in form policy number file text)))

  -- The answers about logs in order, numbered on. All end as the worst of them and of what ended before.
  abbrev pub AreLogAnswers : ℕ → List (List ℕ) → List ℕ → List ℕ → Ending → Ending → Type 0
  AreLogAnswers number [] before after so_far ending = (after ≡ before) × (ending ≡ so_far)
  AreLogAnswers number (file ∷ files) before after so_far ending =
      (between : List ℕ) × (one : Ending) × (IsLogAnswer (number + 1) file before between one
      × AreLogAnswers (number + 1) files between after (worse so_far one) ending)

-- the files of bindings; without one, standard input
abbrev pub or_standard : List (List ℕ) → List (List ℕ)
or_standard [] = codes "-" ∷ []
or_standard (file ∷ files) = file ∷ files

abbrev pub names_in : Options → List (List ℕ)
names_in options = or_standard (options.policy ++ options.before ++ options.after)

abbrev pub name_text : List ℕ → List ℕ
name_text name = codes " " ++ name

abbrev pub names_text : List (List ℕ) → List ℕ
names_text names = codes "==" ++ flat_map name_text names ++ codes "\n"

-- the line above one of several parts
abbrev pub heading_in : AnswerForm → List (List ℕ) → List ℕ
heading_in form.Words names = names_text names
heading_in form.Json names = files_line names
heading_in form.Csv names = names_text names

-- a fault of a text, which is printed in place of all answers; a table has none
abbrev pub fault_in : AnswerForm → List ℕ → Fault → List ℕ
fault_in form.Words name fault = name ++ codes " " ++ fault_text fault
fault_in form.Json name fault =
    lines_text fault_columns (fault_row name fault.line (kind_text fault.kind) ∷ [])
fault_in form.Csv name fault = []

-- The fault of a text is printed, and nothing else.
abbrev pub IsToldIn : AnswerForm → List ℕ → ScriptError → List ℕ → Type 0
IsToldIn form name (script_error.Memory refused) printed = ⊥
IsToldIn form name (script_error.Fault fault) printed = printed ≡ fault_in form name fault

-- what is left out of a list; beside a table it is said on standard error
abbrev pub omissions_in : AnswerForm → Policy → List ℕ
omissions_in form.Words policy = omissions_text policy
omissions_in form.Json policy = lines_text omission_columns (map omission_row policy.omissions)
omissions_in form.Csv policy = []

-- nothing is asked beside commands, and no command does what is left out of a list
abbrev pub can_lead : List Query → Policy → Policy → Bool
can_lead queries before after =
    length queries == 0 && length before.omissions == 0 && length after.omissions == 0

abbrev pub lead_text : List Query → Policy → Policy → List ℕ
lead_text queries before after =
    if can_lead queries before after then commands_text before after else []

abbrev pub ending_of_lead : List Query → Policy → Policy → Ending
ending_of_lead queries before after = if can_lead queries before after then Whole else Failed

-- whether something changes
abbrev pub ending_in : AnswerForm → Policy → Policy → Ending
ending_in form.Words before after = ending_of_changes (changes_text before after)
ending_in form.Json before after = ending_of_changes (change_rows before after)
ending_in form.Csv before after = ending_of_changes (change_rows before after)
