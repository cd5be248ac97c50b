-- Words that are left out of a line of a scene, known by what is in their places.
use Rattle.std.specs.Prelude.{ℕ, ◌-◌, ◌==◌, ◌&&◌, ◌||◌, nat_lt, not, Bool, List, Option, Some, None, codes, length, if◌then◌else◌}
use Rattle.std.specs.Str.{bytes_eq}
use Rattle.kob_mistakes.specs.Commands.{is_command}
use Rattle.kob_mistakes.specs.Hints.{has}
use Rattle.kob_mistakes.specs.Lines.{word_at}
use Rattle.kob_mistakes.specs.Records.{word_is}
use Rattle.kob_mistakes.specs.declared.left_out.LeftOut.{LeftOut}
use Rattle.kob_mistakes.specs.declared.left_out.LeftOut.TheVariants.{WorkersHost, AskersHost, Payload, Partition}

-- service NAME PRINCIPAL partitions .., and consumer NAME PRINCIPAL group ..
abbrev pub lacks_workers_host : List (List ℕ) → Bool
lacks_workers_host words =
    word_is words 0 (codes "service") && word_is words 3 (codes "partitions")
    || word_is words 0 (codes "consumer") && word_is words 3 (codes "group")

-- PRINCIPAL COMMAND ..
abbrev pub lacks_askers_host : List (List ℕ) → Bool
lacks_askers_host words = has 58 (word_at words 0) && is_command (word_at words 1)

-- a record of one word too few, on a line without a brace
abbrev pub lacks_payload : List ℕ → List (List ℕ) → Bool
lacks_payload line words =
    length words == 9 && word_is words 1 (codes "record") && not (has 123 line)

-- a word without a colon in place of a partition: behind `reads`, or behind a partition
abbrev pub lacks_partition : List (List ℕ) → ℕ → Bool
lacks_partition words place =
    word_is words 0 (codes "consumer") && nat_lt 8 place && not (has 58 (word_at words place))
    && (word_is words (place - 1) (codes "reads") || has 58 (word_at words (place - 1)))

-- by a line, its words, and the place of its fault
abbrev pub left_out : List ℕ → List (List ℕ) → ℕ → Option LeftOut
left_out line words place =
    if place == 4 && lacks_workers_host words then Some WorkersHost
    else (if place == 2 && lacks_askers_host words then Some AskersHost
    else (if place == 9 && lacks_payload line words then Some Payload
    else (if lacks_partition words place then Some Partition else None)))

-- the place of the word that stands where one is left out, which has its fault at a place
abbrev pub place_of_left_out : LeftOut → ℕ → ℕ
place_of_left_out WorkersHost place = 3
place_of_left_out AskersHost place = 1
place_of_left_out Payload place = 6
place_of_left_out Partition place = place

abbrev pub left_out_text : LeftOut → List ℕ
left_out_text WorkersHost = codes "HOST is missing here, as 10.0.0.1"
left_out_text AskersHost = codes "HOST is missing here, as 10.0.0.1"
left_out_text Payload =
    codes "PAYLOAD is missing here, as {\"total\":10}, or STATE at the end"
left_out_text Partition = codes "a topic is read by its partitions, as orders:0"
