-- The byte stands as often as it was appended.
use Rattle.std.proofs.Common.{replicate, ◌++◌, ◌≡◌}
use Rattle.kob.proofs.marks.push_times.Given as goal

abbrev pub invariant-loop : goal.invariant-loop
invariant-loop l = l.out.items ≡ l.initial.out.items ++ replicate l.counter l.byte
