-- What was passed is plain.
use Rattle.std.proofs.Common.{◌≡◌, ◌≤◌, ◌+◌, ◌-◌, drop, length}
use Rattle.kob_words.specs.Words.{plain_length}
use Rattle.kob_words.proofs.printed_text.plain_length.Given as goal

abbrev pub invariant-loop-length : goal.invariant-loop-length
invariant-loop-length l = record {
  within : l.length ≤ length l.bytes;
  passed : plain_length l.bytes ≡ l.length + plain_length (drop l.length l.bytes);
}

abbrev pub decreases-loop-length : goal.decreases-loop-length
decreases-loop-length l = length l.bytes - l.length

abbrev pub invariant-loop-length-2 : goal.invariant-loop-length-2
invariant-loop-length-2 l = record {
  within : l.length ≤ length l.bytes;
  passed : plain_length l.bytes ≡ l.length + plain_length (drop l.length l.bytes);
}

abbrev pub decreases-loop-length-2 : goal.decreases-loop-length-2
decreases-loop-length-2 l = length l.bytes - l.length
