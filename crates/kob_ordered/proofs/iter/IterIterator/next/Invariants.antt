use Rattle.kob_ordered.proofs.Words.{entries_in, length, ◌≡◌}
use Rattle.kob_ordered.proofs.iter.IterIterator.next.Given as goal

-- only holes were passed over
abbrev pub invariant-loop-slot : goal.invariant-loop-slot
invariant-loop-slot g l = entries_in l.self-inside.slots.now ≡ l.fn.self

abbrev pub decreases-loop-slot : goal.decreases-loop-slot
decreases-loop-slot g l = length l.self-inside.slots.now
