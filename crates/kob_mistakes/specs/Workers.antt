-- The workers that lines declare.
use Rattle.std.specs.Prelude.{ℕ, ◌==◌, List, [], ◌∷◌, Option, Some, None, codes, if◌then◌else◌}
use Rattle.std.specs.Option.{option_or}
use Rattle.std.specs.Str.{bytes_eq}
use Rattle.kob_mistakes.specs.Lines.{word_at}
use Rattle.kob_mistakes.specs.Records.{word_is}
use Rattle.kob_mistakes.specs.declared.worker.WorkerKind.{WorkerKind}
use Rattle.kob_mistakes.specs.declared.worker.WorkerKind.TheVariants.{Service, Consumer}
use Rattle.kob_script.specs.Words.{raw_words}

-- what a line declares that begins with this word
abbrev pub declared_by : List ℕ → Option WorkerKind
declared_by word =
    if bytes_eq word (codes "service") then Some Service
    else (if bytes_eq word (codes "consumer") then Some Consumer else None)

-- words that declare a worker of this name
abbrev pub kind_declared : List (List ℕ) → List ℕ → Option WorkerKind
kind_declared words name =
    if word_is words 1 name then declared_by (word_at words 0) else None

-- by the first of these lines that declares a worker of this name
abbrev pub kind_named : List (List ℕ) → List ℕ → Option WorkerKind
kind_named [] name = None
kind_named (line ∷ lines) name =
    option_or (kind_declared (raw_words line) name) (kind_named lines name)

-- of the first word, where the second one is wrong
abbrev pub stepping_at : List (List ℕ) → List (List ℕ) → ℕ → Option WorkerKind
stepping_at before words place = if place == 1 then kind_named before (word_at words 0) else None
