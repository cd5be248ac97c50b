use Rattle.kob_prefix_tree.proofs.Words.{IsNeat, List, held_in, length, seen, ℕ, ◌++◌, ◌≡◌}
use Rattle.kob_prefix_tree.proofs.place.Place.at.Given as goal

abbrev pub invariant-loop-byte : goal.invariant-loop-byte
invariant-loop-byte l = record {
  held : (more : List ℕ) → held_in (l.key ++ more) (seen l.fn.self) ≡ held_in (l.rest ++ more) (seen l.place);
  neat : IsNeat (seen l.fn.self).1 → IsNeat (seen l.place).1;
}

abbrev pub decreases-loop-byte : goal.decreases-loop-byte
decreases-loop-byte l = length l.rest
