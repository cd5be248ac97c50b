-- The objects of an array of JSON (RFC 8259), each with the number of the line on which it begins.
-- They have no array and no object in them.
use Rattle.std.specs.Prelude.{ℕ, Bool, true, false, List, [], ◌∷◌, ◌++◌, ◌+◌, ◌||◌, ◌&&◌, ◌==◌, Result, Ok, Err, codes, if◌then◌else◌, nat_eq, drop}
use Rattle.std.specs.Char.{is_whitespace}
use Rattle.std.specs.List.{starts_with}
use Rattle.bstr.specs.Trim.{trim_start_by}
use Rattle.kob_script.specs.declared.fault.Fault.{Fault}
use Rattle.kob_script.specs.declared.fault.FaultKind.TheVariants.{BadLine}
use Rattle.kob_policy_text.specs.declared.objects.Stage.{Stage}
use Rattle.kob_policy_text.specs.declared.objects.Stage.TheVariants.{Before, First, Next, Between, Inside, Quoted, Escaped, Closed, Wrong}
use Rattle.kob_policy_text.specs.Joined.{Numbered, numbered}

-- the objects that ended, and the one that began, with its line
pub record Objects : Type 0 where
  pub ended : List Numbered
  pub begun : List ℕ
  pub line : ℕ
  pub stage : Stage

abbrev pub no_objects : Objects
no_objects = record { ended = []; begun = []; line = 1; stage = Before }

abbrev pub is_blank : ℕ → Bool
is_blank byte = byte == 32 || (byte == 9 || (byte == 10 || byte == 13))

abbrev pub at_stage : Objects → Stage → Objects
at_stage objects stage = record objects { stage = stage }

-- no JSON is like this; the line is kept
abbrev pub wrong_on : Objects → ℕ → Objects
wrong_on objects line =
    record { ended = objects.ended; begun = objects.begun; line = line; stage = Wrong }

abbrev pub begun_on : Objects → ℕ → Objects
begun_on objects line =
    record { ended = objects.ended; begun = 123 ∷ []; line = line; stage = Inside }

abbrev pub with_byte : Objects → Stage → ℕ → Objects
with_byte objects stage byte = record {
  ended = objects.ended;
  begun = objects.begun ++ byte ∷ [];
  line = objects.line;
  stage = stage;
}

-- the object ends with this byte
abbrev pub with_end : Objects → Objects
with_end objects = record {
  ended = objects.ended ++ numbered objects.line (objects.begun ++ 125 ∷ []) ∷ [];
  begun = [];
  line = objects.line;
  stage = Between;
}

-- the array begins
abbrev pub before_array : Objects → ℕ → ℕ → Objects
before_array objects line byte =
    if is_blank byte then objects
    else (if byte == 91 then at_stage objects First else wrong_on objects line)

-- an object begins, or the array ends where it may
abbrev pub before_object : Bool → Objects → ℕ → ℕ → Objects
before_object may_close objects line byte =
    if is_blank byte then objects
    else (if byte == 123 then begun_on objects line
    else (if byte == 93 && may_close then at_stage objects Closed else wrong_on objects line))

abbrev pub behind_object : Objects → ℕ → ℕ → Objects
behind_object objects line byte =
    if is_blank byte then objects
    else (if byte == 44 then at_stage objects Next
    else (if byte == 93 then at_stage objects Closed else wrong_on objects line))

abbrev pub inside_byte : Objects → ℕ → ℕ → Objects
inside_byte objects line byte =
    if byte == 125 then with_end objects
    else (if byte == 34 then with_byte objects Quoted byte
    else (if byte == 123 || byte == 91 then wrong_on objects line
    else with_byte objects Inside byte))

abbrev pub quoted_byte : Objects → ℕ → Objects
quoted_byte objects byte =
    if byte == 34 then with_byte objects Inside byte
    else (if byte == 92 then with_byte objects Escaped byte else with_byte objects Quoted byte)

abbrev pub closed_byte : Objects → ℕ → ℕ → Objects
closed_byte objects line byte = if is_blank byte then objects else wrong_on objects line

abbrev pub byte_by : Stage → Objects → ℕ → ℕ → Objects
byte_by Before objects line byte = before_array objects line byte
byte_by First objects line byte = before_object true objects line byte
byte_by Next objects line byte = before_object false objects line byte
byte_by Between objects line byte = behind_object objects line byte
byte_by Inside objects line byte = inside_byte objects line byte
byte_by Quoted objects line byte = quoted_byte objects byte
byte_by Escaped objects line byte = with_byte objects Quoted byte
byte_by Closed objects line byte = closed_byte objects line byte
byte_by Wrong objects line byte = objects

unfoldable pub with_object_byte : Objects → ℕ → ℕ → Objects
with_object_byte objects line byte = byte_by objects.stage objects line byte

-- the bytes of a line
unfoldable pub read_bytes : Objects → ℕ → List ℕ → Objects
read_bytes objects line [] = objects
read_bytes objects line (byte ∷ bytes) =
    read_bytes (with_object_byte objects line byte) line bytes

-- a line and its end
abbrev pub read_line : Objects → ℕ → List ℕ → Objects
read_line objects line text = with_object_byte (read_bytes objects line text) line 10

-- the lines from one on, whose number is given
unfoldable pub read_lines : Objects → ℕ → List (List ℕ) → Objects
read_lines objects number [] = objects
read_lines objects number (line ∷ lines) =
    read_lines (read_line objects number line) (number + 1) lines

-- the fault is on the line of the object that does not end, or that the array does not end behind
abbrev pub objects_by : Stage → Objects → Result (List Numbered) Fault
objects_by Closed objects = Ok objects.ended
objects_by stage objects = Err (record { line = objects.line; kind = BadLine })

unfoldable pub objects_in : List (List ℕ) → Result (List Numbered) Fault
objects_in lines = objects_by (read_lines no_objects 1 lines).stage (read_lines no_objects 1 lines)

-- behind the bracket that begins an array stands an object, or the array ends
abbrev pub begins_objects : List ℕ → Bool
begins_objects text =
    starts_with nat_eq text (codes "{") || starts_with nat_eq text (codes "]")

abbrev pub begins_array : List ℕ → Bool
begins_array text =
    starts_with nat_eq text (codes "[")
    && begins_objects (trim_start_by is_whitespace (drop 1 text))

-- the text is an array of objects
unfoldable pub is_array : List ℕ → Bool
is_array text = begins_array (trim_start_by is_whitespace text)
