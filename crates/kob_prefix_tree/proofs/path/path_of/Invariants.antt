use Rattle.kob_prefix_tree.proofs.Words.{count, key_of, length, ◌++◌, ◌+◌, ◌<◌, ◌≡◌, ◌≤◌}
use Rattle.std.specs.Prelude.{◌*◌}
use Rattle.kob_prefix_tree.proofs.path.path_of.Given as goal

abbrev pub invariant-loop-rest : goal.invariant-loop-rest
invariant-loop-rest l = record {
  key : l.key ≡ l.rest ++ key_of l.path.nodes;
  few : 23 * count l.path.nodes ≤ length (key_of l.path.nodes) + 22;
  full : 0 < length l.rest → 23 * count l.path.nodes ≤ length (key_of l.path.nodes);
}

abbrev pub decreases-loop-rest : goal.decreases-loop-rest
decreases-loop-rest l = length l.rest
