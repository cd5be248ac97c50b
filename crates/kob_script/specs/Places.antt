-- Which word of a line has the fault that the line has.
use Rattle.std.specs.Prelude.{ℕ, List, Option, [], ◌∷◌, Some, None, Bool, false, nat_eq}
use Rattle.std.specs.List.{position}
use Rattle.std.specs.Result.{result_err}
use Rattle.kob_script.specs.CommandLines.{faults_in, row_named}
use Rattle.kob_script.specs.Words.{BadLine, FaultKind, Word, named_host, named_principal, rank}
use Rattle.kob_script.specs.declared.command.Place.{Place}

-- a fault is of this kind
abbrev pub is_of : FaultKind → Option FaultKind → Bool
is_of kind None = false
is_of kind (Some fault) = nat_eq (rank fault) (rank kind)

-- the faults of the words after a command; an unknown command is itself the fault
abbrev pub faults_behind : Option (List Place) → List Word → List (Option FaultKind)
faults_behind None words = Some BadLine ∷ []
faults_behind (Some places) words = None ∷ faults_in places words

-- the faults of a line's words in their order, PRINCIPAL HOST COMMAND and the words behind; a word
-- that is missing has its fault at the end
abbrev pub word_faults : List Word → List (Option FaultKind)
word_faults (who ∷ from ∷ command ∷ words) =
    result_err (named_principal who) ∷ result_err (named_host from)
    ∷ faults_behind (row_named command.decoded) words
word_faults [] = Some BadLine ∷ []
word_faults (who ∷ []) = None ∷ Some BadLine ∷ []
word_faults (who ∷ from ∷ []) = None ∷ None ∷ Some BadLine ∷ []

-- the place of the first word with a fault of this kind, from 0
abbrev pub fault_place : FaultKind → List Word → Option ℕ
fault_place kind words = position (is_of kind) (word_faults words)
