-- What is remarked of a scene that is no fault: a name of which quotes are a part, and a record whose
-- state may be meant as the word behind it. What a word is said to be that its line means otherwise.
use Rattle.std.specs.Prelude.{ℕ, List, [], ◌++◌, Option, Some, None}
use Rattle.kob_mistakes.specs.Lines.{word_at}
use Rattle.kob_mistakes.specs.Misused.{misused_line}
use Rattle.kob_mistakes.specs.Quoted.{quoted_name}
use Rattle.kob_mistakes.specs.Records.{doubtful_state}
use Rattle.kob_mistakes.specs.Told.{doubtful_text, quoted_text}
use Rattle.kob_scene_text.specs.declared.misuse.Misuse.{Misuse}

abbrev pub quotes_remark : List ℕ → Option (ℕ × List ℕ) → List ℕ
quotes_remark name None = []
quotes_remark name (Some found) = quoted_text name found.0 found.1

abbrev pub doubts_remark : List ℕ → Option (ℕ × List ℕ) → List ℕ
doubts_remark name None = []
doubts_remark name (Some found) = doubtful_text name found.0 found.1

abbrev pub remarks_text : List ℕ → List ℕ → List ℕ
remarks_text name text =
    quotes_remark name (quoted_name text) ++ doubts_remark name (doubtful_state text)

-- the words of a line of a scene, which begins with the name of a worker, and the place of the word
abbrev pub misuse_text : List ℕ → ℕ → Option Misuse → List (List ℕ) → ℕ → List ℕ
misuse_text name line None words place = []
misuse_text name line (Some misuse) words place =
    misused_line name line misuse (word_at words place) (word_at words 0)
