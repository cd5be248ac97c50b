-- Topics, as `kafka-topics.sh` creates them.
use Rattle.std.specs.Prelude.{ℕ, Bool, true, false, ◌==◌, List, ◌++◌, codes, map, if◌then◌else◌}
use Rattle.std.specs.Fmt.{decimal}
use Rattle.kob_words.specs.Words.{bytes_text}
use Rattle.kob_scene_export.specs.Plain.{comment_unless}

-- a byte of a name as metrics have it: `.` for `_`
abbrev pub dotted : ℕ → ℕ
dotted byte = if byte == 95 then 46 else byte

-- a name as metrics have it
abbrev pub metric_name : List ℕ → List ℕ
metric_name name = map dotted name

-- an option's number, at the end of a line
abbrev pub counted_text : List ℕ → ℕ → List ℕ
counted_text option count = option ++ decimal count ++ codes "\n"

-- why a topic is a comment, above it
abbrev pub alike_note : Bool → List ℕ
alike_note true = codes ""
alike_note false =
    codes "# kafka-topics.sh refuses a name that differs from another one only in . and _.\n"

unfoldable pub topic_line : List ℕ → ℕ → List ℕ
topic_line name partitions =
    codes "kafka-topics.sh --create --topic=" ++ bytes_text name
    ++ counted_text (codes " --partitions=") partitions

abbrev pub topic_text : Bool → List ℕ → ℕ → List ℕ
topic_text written name partitions =
    alike_note written ++ comment_unless written ++ topic_line name partitions
