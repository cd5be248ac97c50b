-- Questions about a list that are not answered as expected.
use Rattle.std.specs.Prelude.{ℕ, Bool, List, bytes_eq, unwrap_or}
use Rattle.kob_mistakes.specs.Lines.{line_where}
use Rattle.kob_policy_text.specs.Access.{fails}
use Rattle.kob_policy_text.specs.Listing.{trimmed}
use Rattle.kob_policy_text.specs.Policy.{Policy}
use Rattle.kob_script.specs.Script.{lines_in}
use Rattle.kob_policy_text.specs.declared.question.Query.{Query}

abbrev pub is_unmet : Policy → Query → Bool
is_unmet policy query = fails policy query.question

-- a line of a text of questions has this one
abbrev pub has_question : List ℕ → List ℕ → Bool
has_question question line = bytes_eq (trimmed line) question

-- the number of the first such line; 0 without one
abbrev pub line_among : List (List ℕ) → List ℕ → ℕ
line_among lines question = unwrap_or (line_where (has_question question) 1 lines) 0

abbrev pub question_line : List ℕ → List ℕ → ℕ
question_line text question = line_among (lines_in text) question
