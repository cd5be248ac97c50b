-- How a batch stands to those that its producer sent before: the rules of Kafka's idempotent
-- producer (KIP-98), whose sequences wrap and whose broker looks at the last five batches.
use Rattle.std.specs.Prelude.{◌+◌, ◌-◌, ◌%◌, ◌==◌, ◌&&◌, ℕ, Bool, nat_lt, List, Option, Some, None, if◌then◌else◌}
use Rattle.std.specs.List.{find}
use Rattle.circular_buffer.specs.Buffer.{keep_last, last_item}
pub use Rattle.kob_names.specs.declared.batch.Idem.{Idem}
pub use Rattle.kob_producers.specs.declared.sent.Sent.{Sent}
pub use Rattle.kob_producers.specs.declared.judge.Judgement.{Judgement}
pub use Rattle.kob_producers.specs.declared.judge.Judgement.TheVariants.{Next, OldEpoch, OutOfOrder, Repeat}

-- how many sequences there are
abbrev pub sequences : ℕ
sequences = 2147483648

-- the sequence after this one
abbrev pub next_sequence : ℕ → ℕ
next_sequence sequence = (sequence + 1) % sequences

-- the sequence of the last of so many records from base
abbrev pub last_of : ℕ → ℕ → ℕ
last_of base count = (base + (count - 1)) % sequences

-- the batch is one that was sent before
abbrev pub is_same : Idem → ℕ → Sent → Bool
is_same idem count sent =
    sent.epoch == idem.epoch && (sent.base == idem.base && sent.count == count)

-- a producer, or a new epoch of one, begins at 0
abbrev pub judge_first : ℕ → Judgement
judge_first base = if base == 0 then Next else OutOfOrder

-- after a last batch of the same epoch
abbrev pub judge_base : ℕ → Sent → Judgement
judge_base base last =
    if base == next_sequence (last_of last.base last.count) then Next else OutOfOrder

-- a batch of the last batch's epoch: the one that it repeats, if any
abbrev pub judge_same : Option Sent → ℕ → Sent → Judgement
judge_same (Some sent) base last = Repeat sent.offset
judge_same None base last = judge_base base last

-- by the last batch, and the last few
abbrev pub judge_by : Option Sent → List Sent → Idem → ℕ → Judgement
judge_by None recent idem count = judge_first idem.base
judge_by (Some last) recent idem count =
    if nat_lt idem.epoch last.epoch then OldEpoch
    else (if nat_lt last.epoch idem.epoch then judge_first idem.base
    else judge_same (find (is_same idem count) recent) idem.base last)

-- how many batches of a producer are looked at for a repeat
abbrev pub memory_length : ℕ
memory_length = 5

-- by all batches that the producer sent
abbrev pub judge : List Sent → Idem → ℕ → Judgement
judge history idem count = judge_by (last_item history) (keep_last memory_length history) idem count
