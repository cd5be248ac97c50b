use Rattle.kob_router.proofs.Words.{drop, length, with_bytes, ◌-◌, ◌≡◌, ◌≤◌}
use Rattle.kob_router.proofs.partitioner.with_bytes.Given as goal

abbrev pub invariant-loop-at : goal.invariant-loop-at
invariant-loop-at l = record {
  within : l.at ≤ length l.bytes;
  rest : with_bytes l.hash (drop l.at l.bytes) ≡
      with_bytes l.start l.bytes;
}

abbrev pub decreases-loop-at : goal.decreases-loop-at
decreases-loop-at l = length l.bytes - l.at
