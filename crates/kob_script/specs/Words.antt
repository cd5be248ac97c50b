-- The words of a line, and what they stand for: bytes, texts, names, numbers, parts of a batch.
-- Words are read up to a fault; of the faults in a line the first kind counts.
use Rattle.std.specs.Prelude.{◌≡◌, ◌⊎◌, ℕ, List, [], ◌∷◌, Option, Some, None, Result, Ok, Err, nat_lt, if◌then◌else◌, length, ◌+◌, ◌==◌, Bool, take, drop, unwrap_or, ◌||◌, filter, find, option_map, not, codes, bytes_eq, is_none, ok_or}
pub use Rattle.kob_script.specs.declared.fault.FaultKind.TheVariants.{BadEscape, LateSetting, BadLine, BadText, BadPrincipal, BadHost, BadNumber, BadWord, Usage, NoAction, BadName, BadMix, NoResource, NoPrincipal}
pub use Rattle.kob_script.specs.declared.fault.FaultKind.{FaultKind}
pub use Rattle.kob_script.specs.declared.fault.LineError.TheVariants.{Memory, Fault}
pub use Rattle.kob_script.specs.declared.fault.LineError.{LineError}
use Rattle.memchr.specs.Find.{first_of, is_byte, places}
use Rattle.std.specs.List.{slice_split}
use Rattle.std.specs.Str.{is_utf8}
use Rattle.kob_words.specs.Words.{bytes_of, decimal_in, unescaped}
use Rattle.kob_names.specs.TextRules.{host_fault, principal_fault}
use Rattle.kob_names.specs.declared.batch.Idem.{Idem}
use Rattle.kob_names.specs.declared.record.Record.{Record}
use Rattle.kob_rights.specs.declared.on_partitions.Before.{Before}
pub use Rattle.kob_rights.specs.declared.on_partitions.Which.TheVariants.{Start, End}
use Rattle.kob_rights.specs.declared.on_partitions.Which.{Which}
use Rattle.kob_rights.specs.declared.on_partitions.Before.TheVariants as befores

-- the place of each kind in the order in which they are looked for over a whole line
abbrev pub rank : FaultKind → ℕ
rank BadEscape = 0
rank LateSetting = 1
rank BadLine = 2
rank BadText = 3
rank BadPrincipal = 4
rank BadHost = 5
rank BadNumber = 6
rank BadWord = 7
rank Usage = 8
rank NoAction = 9
rank BadName = 10
rank BadMix = 11
rank NoResource = 12
rank NoPrincipal = 13

-- of two faults that whose kind comes first
abbrev pub earlier : Option FaultKind → Option FaultKind → Option FaultKind
earlier None other = other
earlier (Some kind) None = Some kind
earlier (Some kind) (Some other) = Some (if nat_lt (rank other) (rank kind) then other else kind)

-- the first kind that is among faults
abbrev pub first_kind : List (Option FaultKind) → Option FaultKind
first_kind [] = None
first_kind (fault ∷ faults) = earlier fault (first_kind faults)

-- Some fault is of this kind.
abbrev pub IsAmong : FaultKind → List (Option FaultKind) → Type 0
IsAmong kind [] = ⊥
IsAmong kind (fault ∷ faults) = (fault ≡ Some kind) ⊎ IsAmong kind faults

-- A test of words found this fault or none. Out of memory hides none.
abbrev pub Finds : Result (Unit {0}) LineError → Option FaultKind → Type 0
Finds (Ok done) fault = fault ≡ None
Finds (Err (Memory e)) fault = fault ≡ None
Finds (Err (Fault kind)) fault = fault ≡ Some kind

-- Out of memory is returned only where there is no such fault.
abbrev pub HidesNoFault : {A : Type 0} → Result A LineError → Option FaultKind → Type 0
HidesNoFault (Err (Memory e)) fault = fault ≡ None
HidesNoFault result fault = Unit {0}

-- a step of reading, and those after it unless it failed
infixl 10 ◌>>=◌
abbrev pub ◌>>=◌ : {A B : Type 0} → Result A FaultKind → (A → Result B FaultKind)
    → Result B FaultKind
(Ok x) >>= f = f x
(Err kind) >>= f = Err kind

-- A function failed with the fault of reading, or out of memory.
abbrev pub Fails : {A : Type 0} → LineError → Result A FaultKind → Type 0
Fails (Memory e) read = Unit {0}
Fails (Fault kind) read = read ≡ Err kind

-- What a function returned is by a view what reading gives, unless memory ran out.
abbrev pub GivesSeen : {A B : Type 0} → (A → B) → Result A LineError → Result B FaultKind → Type 0
GivesSeen view (Ok x) read = read ≡ Ok (view x)
GivesSeen view (Err error) read = Fails error read

abbrev pub Gives : {A : Type 0} → Result A LineError → Result A FaultKind → Type 0
Gives result read = GivesSeen (λ x. x) result read

-- what was read, by a view of it
abbrev pub seen : {A B : Type 0} → (A → B) → Result A FaultKind → Result B FaultKind
seen view read = read >>= λ x. Ok (view x)

-- each in turn, up to the first fault
unfoldable pub each : {A B : Type 0} → (A → Result B FaultKind) → List A → Result (List B) FaultKind
each read [] = Ok []
each read (x ∷ xs) = read x >>= λ first. each read xs >>= λ others. Ok (first ∷ others)

-- what is read, unless a fault was found
abbrev pub unless_found : {A : Type 0} → Option FaultKind → Result A FaultKind → Result A FaultKind
unless_found None read = read
unless_found (Some kind) read = Err kind

-- how many values are read
abbrev pub counted : {A : Type 0} → Result (List A) FaultKind → Result ℕ FaultKind
counted read = read >>= λ items. Ok (length items)

-- what is before and after the first of these bytes
abbrev pub cut_at : ℕ → List ℕ → Option (List ℕ × List ℕ)
cut_at byte word =
    option_map (λ at. (take at word, drop (at + 1) word)) (first_of (places (is_byte byte) word))

-- a word as it is in the line, and the bytes that it stands for
pub record Word : Type 0 where
  pub raw : List ℕ
  pub decoded : List ℕ

-- a word, unless a percent sign in it begins no escape
abbrev pub word_of : List ℕ → Result Word FaultKind
word_of raw =
    ok_or (unescaped raw) BadEscape >>= λ bytes. Ok (record { raw = raw; decoded = bytes })

-- a space or a tab
abbrev pub is_blank : ℕ → Bool
is_blank byte = byte == 32 || byte == 9

-- what stands between blanks
abbrev pub raw_words : List ℕ → List (List ℕ)
raw_words line = filter (λ word. nat_lt 0 (length word)) (slice_split is_blank line)

-- a line is skipped if it has no byte but blanks, or if the first one that is no blank is `#`
abbrev pub is_skipped : List ℕ → Bool
is_skipped line = unwrap_or (find (λ byte. not (is_blank byte)) line) 35 == 35

-- the words of a line, none if it is skipped; an escape that is not whole is the first fault
abbrev pub words_of : List ℕ → Result (List Word) FaultKind
words_of line = if is_skipped line then Ok [] else each word_of (raw_words line)

abbrev pub text_in : List ℕ → Result (List ℕ) FaultKind
text_in bytes = if is_utf8 bytes then Ok bytes else Err BadText

-- the text of a word
abbrev pub text_of : Word → Result (List ℕ) FaultKind
text_of word = text_in word.decoded

-- a text that is a principal
unfoldable pub principal_of : List ℕ → Result (List ℕ) FaultKind
principal_of text = if is_none (principal_fault text) then Ok text else Err BadPrincipal

-- a text that is a host
unfoldable pub host_of : List ℕ → Result (List ℕ) FaultKind
host_of text = if is_none (host_fault text) then Ok text else Err BadHost

-- the principal and the host that words name
abbrev pub named_principal : Word → Result (List ℕ) FaultKind
named_principal word = text_of word >>= principal_of

abbrev pub named_host : Word → Result (List ℕ) FaultKind
named_host word = text_of word >>= host_of

-- one or more decimal digits that write a number of 64 bits
abbrev pub number_in : List ℕ → Result ℕ FaultKind
number_in digits = ok_or (decimal_in digits) BadNumber

-- the number that a word writes
abbrev pub number_of : Word → Result ℕ FaultKind
number_of word = number_in word.decoded

-- `-2` asks for the start, `-1` for the end
abbrev pub which_of : Word → Result Which FaultKind
which_of word =
    if bytes_eq word.decoded (codes "-2") then Ok Start
    else (if bytes_eq word.decoded (codes "-1") then Ok End else Err BadLine)

-- the offset to delete up to, or `-1` for the end
abbrev pub before_of : Word → Result Before FaultKind
before_of word =
    if bytes_eq word.decoded (codes "-1") then Ok befores.End
    else (number_of word >>= λ offset. Ok (befores.Offset offset))

-- three numbers, if no part is behind them; escapes are replaced after the cuts
abbrev pub three_of : List ℕ → List ℕ → List ℕ → Option (List ℕ × List ℕ)
    → Result (Option Idem) FaultKind
three_of one two three None = do
  id ← number_in (bytes_of one)
  epoch ← number_in (bytes_of two)
  base ← number_in (bytes_of three)
  Ok (Some (record { id = id; epoch = epoch; base = base }))
three_of one two three (Some behind) = Err BadLine

-- `-` for no producer, or three numbers with colons between them
unfoldable pub idem_of : Word → Result (Option Idem) FaultKind
idem_of word =
    if bytes_eq word.raw (codes "-") then Ok None else do
      first ← ok_or (cut_at 58 word.raw) BadLine
      second ← ok_or (cut_at 58 first.1) BadLine
      three_of first.0 second.0 second.1 (cut_at 58 second.1)

-- a key and a value, or a value alone; escapes are replaced after the cut, which leaves each whole
abbrev pub record_in : Option (List ℕ × List ℕ) → Word → Record
record_in None word = record { key = None; value = word.decoded; headers = [] }
record_in (Some parts) word =
    record { key = Some (bytes_of parts.0); value = bytes_of parts.1; headers = [] }

-- a record without headers
unfoldable pub record_of : Word → Record
record_of word = record_in (cut_at 61 word.raw) word
