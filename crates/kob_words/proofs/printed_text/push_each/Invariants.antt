-- What was printed, and then the rest, is what the bytes are printed as.
use Rattle.std.proofs.Common.{◌≡◌, ◌++◌, length}
use Rattle.std.specs.Str.{IsAscii}
use Rattle.kob_words.specs.Words.{IsKept, bytes_text}
use Rattle.kob_words.proofs.printed_text.push_each.Given as goal

abbrev pub invariant-loop-byte : goal.invariant-loop-byte
invariant-loop-byte l = record {
  text : l.out.items ++ bytes_text l.rest ≡ l.initial.out.items ++ bytes_text l.bytes;
  kept : IsKept l.initial.out.items l.out.items;
  ascii : IsAscii (bytes_text l.rest) → IsAscii (bytes_text l.bytes);
}

abbrev pub decreases-loop-byte : goal.decreases-loop-byte
decreases-loop-byte l = length l.rest
