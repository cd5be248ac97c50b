use Rattle.kob_prefix_tree.proofs.Words.{IsLongestInUse, IsNeat, held_in, length, seen, ℕ, ◌+◌, ◌≡◌}
use Rattle.kob_prefix_tree.proofs.place.Place.depth_of.Given as goal

abbrev pub invariant-loop-byte : goal.invariant-loop-byte
invariant-loop-byte l = record {
  neat : IsNeat (seen l.place).1;
  passed : l.depth + length l.rest ≡ length l.name;
  deeper : (n : ℕ) → IsLongestInUse (λ key. held_in key (seen l.place)) l.rest n
      → IsLongestInUse (λ key. held_in key (seen l.fn.self)) l.name (l.depth + n);
}

abbrev pub decreases-loop-byte : goal.decreases-loop-byte
decreases-loop-byte l = length l.rest
