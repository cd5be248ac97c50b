-- The bytes that were passed are shown.
use Rattle.std.proofs.Common.{flat_map, take, ◌++◌, ◌≡◌}
use Rattle.kob.specs.Marks.{shown_byte}
use Rattle.kob.proofs.marks.push_shown.Given as goal

abbrev pub invariant-loop-byte : goal.invariant-loop-byte
invariant-loop-byte l =
    l.out.items ≡ l.initial.out.items ++ flat_map shown_byte (take l.byte-index l.word)
