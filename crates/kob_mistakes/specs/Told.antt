-- What is printed on standard error beside the answers.
use Rattle.std.specs.Prelude.{ℕ, Bool, true, false, List, [], ◌++◌, Option, Some, None, codes}
use Rattle.std.specs.Fmt.{decimal}
use Rattle.kob_mistakes.specs.Kinds.{is_alone, kind_form, kind_name, kind_named}
use Rattle.kob_mistakes.specs.declared.kinds.Kind.{Kind}

-- kob: NAME: line LINE:, and a blank
unfoldable pub head_text : List ℕ → ℕ → List ℕ
head_text name line = codes "kob: " ++ name ++ codes ": line " ++ decimal line ++ codes ": "

-- the name of a file that was not read begins a question
unfoldable pub quotes_text : List ℕ
quotes_text = codes "  hint: quotes make a question of words, as in '"

unfoldable pub expected_head : List ℕ
expected_head = codes "  expected: "

abbrev pub expected_text : List ℕ → List ℕ
expected_text form = expected_head ++ form ++ codes "\n"

-- `log`, which reads a log, is no kind of question
abbrev pub form_text : Option Kind → List ℕ
form_text None = []
form_text (Some kind) = expected_text (kind_form kind)

abbrev pub unquoted_text : List ℕ → List ℕ
unquoted_text word =
    form_text (kind_named word) ++ quotes_text ++ word ++ codes " ..'\n"

-- a question of more words than one is in quotes
abbrev pub unquoted_unless : Bool → List ℕ → List ℕ
unquoted_unless true word = []
unquoted_unless false word = unquoted_text word

-- a word that is neither a question nor a file, near to the first word of a question
unfoldable pub neither_text : List ℕ
neither_text = codes ": no such question, and no such file\n  nearest: "

abbrev pub misspelt_text : List ℕ → Kind → List ℕ
misspelt_text word kind =
    codes "kob: " ++ word ++ neither_text ++ kind_name kind ++ codes "\n" ++ unquoted_unless (is_alone kind) (kind_name kind)

-- a record whose state may be meant as the word behind it
unfoldable pub state_text : List ℕ
state_text = codes " is the STATE here; a word before it may be missing\n"

abbrev pub doubtful_text : List ℕ → ℕ → List ℕ → List ℕ
doubtful_text name line word = head_text name line ++ word ++ state_text

-- a name with quotes
abbrev pub quoted_text : List ℕ → ℕ → List ℕ → List ℕ
quoted_text name line word =
    head_text name line ++ codes "quotes are a part of the name " ++ word ++ codes "\n"
