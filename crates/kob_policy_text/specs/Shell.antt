-- The words that a shell passes to a command (POSIX, "Shell Command Language", Quoting). Variables
-- and commands in a word have no value here, so that a dollar or a backquote outside single quotes
-- is a fault, as is a quote that does not end.
use Rattle.std.specs.Prelude.{ℕ, Bool, true, false, List, [], ◌∷◌, ◌++◌, Result, Ok, Err, if◌then◌else◌, ◌==◌, ◌||◌}
use Rattle.kob_script.specs.declared.fault.FaultKind.{FaultKind}
use Rattle.kob_script.specs.declared.fault.FaultKind.TheVariants.{Usage}
use Rattle.kob_policy_text.specs.declared.shell.Quoting.{Quoting}
use Rattle.kob_policy_text.specs.declared.shell.Quoting.TheVariants.{Plain, Escaped, Single, Double, DoubleEscaped, Refused}

-- the words that ended, and the one that began
pub record Words : Type 0 where
  pub ended : List (List ℕ)
  pub has_begun : Bool
  pub word : List ℕ
  pub quoting : Quoting

abbrev pub no_words : Words
no_words = record { ended = []; has_begun = false; word = []; quoting = Plain }

-- the word that began ends
abbrev pub ended_words : Words → List (List ℕ)
ended_words words = if words.has_begun then words.ended ++ words.word ∷ [] else words.ended

abbrev pub with_end : Words → Words
with_end words = record { ended = ended_words words; has_begun = false; word = []; quoting = Plain }

abbrev pub with_byte : Words → ℕ → Words
with_byte words byte = record {
  ended = words.ended;
  has_begun = true;
  word = words.word ++ byte ∷ [];
  quoting = words.quoting;
}

abbrev pub with_quoting : Words → Quoting → Words
with_quoting words quoting = record words { has_begun = true; quoting = quoting }

-- the backslash before a byte that it does not quote is kept, between double quotes
abbrev pub with_escaped : Words → ℕ → Words
with_escaped words byte =
    if byte == 34 || byte == 92 || byte == 36 || byte == 96 then with_byte words byte
    else with_byte (with_byte words 92) byte

-- outside quotes
abbrev pub plain_byte : Words → ℕ → Words
plain_byte words byte =
    if byte == 32 || byte == 9 then with_end words
    else (if byte == 39 then with_quoting words Single
    else (if byte == 34 then with_quoting words Double
    else (if byte == 92 then with_quoting words Escaped
    else (if byte == 36 || byte == 96 then with_quoting words Refused
    else with_byte words byte))))

-- between double quotes
abbrev pub double_byte : Words → ℕ → Words
double_byte words byte =
    if byte == 34 then with_quoting words Plain
    else (if byte == 92 then with_quoting words DoubleEscaped
    else (if byte == 36 || byte == 96 then with_quoting words Refused
    else with_byte words byte))

-- between single quotes every other byte is itself
abbrev pub single_byte : Words → ℕ → Words
single_byte words byte = if byte == 39 then with_quoting words Plain else with_byte words byte

abbrev pub byte_by : Quoting → Words → ℕ → Words
byte_by Plain words byte = plain_byte words byte
byte_by Escaped words byte = with_byte (with_quoting words Plain) byte
byte_by Single words byte = single_byte words byte
byte_by Double words byte = double_byte words byte
byte_by DoubleEscaped words byte = with_escaped (with_quoting words Double) byte
byte_by Refused words byte = words

unfoldable pub with_shell_byte : Words → ℕ → Words
with_shell_byte words byte = byte_by words.quoting words byte

unfoldable pub read_on : Words → List ℕ → Words
read_on words [] = words
read_on words (byte ∷ bytes) = read_on (with_shell_byte words byte) bytes

-- all words, if each quote ended
abbrev pub words_by : Quoting → Words → Result (List (List ℕ)) FaultKind
words_by Plain words = Ok (ended_words words)
words_by _ words = Err Usage

unfoldable pub shell_words : List ℕ → Result (List (List ℕ)) FaultKind
shell_words line = words_by (read_on no_words line).quoting (read_on no_words line)
