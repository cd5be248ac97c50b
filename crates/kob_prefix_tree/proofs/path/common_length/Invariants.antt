use Rattle.kob_prefix_tree.proofs.Words.{length, take, ◌≡◌, ◌≤◌}
use Rattle.std.specs.Prelude.{◌-◌}
use Rattle.kob_prefix_tree.proofs.path.common_length.Given as goal

abbrev pub invariant-loop-count : goal.invariant-loop-count
invariant-loop-count l = record {
  tail : l.count ≤ length l.tail;
  key : l.count ≤ length l.key;
  same : take l.count l.tail ≡ take l.count l.key;
}

abbrev pub decreases-loop-count : goal.decreases-loop-count
decreases-loop-count l = length l.tail - l.count
