-- What reading a list returns.
use Rattle.std.specs.Prelude.{ℕ, ◌≡◌, List, Result, Ok, Err}
use Rattle.kob_topic_check.specs.declared.reading.ReadError.{ReadError}
use Rattle.kob_topic_check.specs.declared.reading.ReadError.TheVariants.{Memory, Line}

-- an error; nothing is said where memory ran out
abbrev pub FailsAt : {B : Type 0} → ReadError → Result (List B) ℕ → Type 0
FailsAt (Memory refused) read = Unit {0}
FailsAt (Line number) read = read ≡ Err number

-- the items, by their values
abbrev pub Reads : {A B : Type 0} → (A → List B) → Result A ReadError → Result (List B) ℕ → Type 0
Reads view (Ok items) read = read ≡ Ok (view items)
Reads view (Err error) read = FailsAt error read
