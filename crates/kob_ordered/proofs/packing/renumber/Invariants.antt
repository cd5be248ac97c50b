use Rattle.kob_ordered.proofs.Words.{length, slice_index_or, ℕ, ◌<◌, ◌≡◌, ◌≤◌}
use Rattle.std.specs.VecDeque.{deque_capacity}
use Rattle.kob_ordered.proofs.packing.renumber.Given as goal

-- the places before k are replaced, and the others stay
abbrev pub invariant-loop-k : goal.invariant-loop-k
invariant-loop-k l = record {
  size : length l.places.items ≡ length l.initial.places.items;
  capacity : deque_capacity l.places ≡ deque_capacity l.initial.places;
  done : (i : ℕ) → i < l.k
      → slice_index_or l.places.items i 0 ≡ slice_index_or l.fn.ranks (slice_index_or l.initial.places.items i 0) 0;
  rest : (i : ℕ) → l.k ≤ i → i < length l.initial.places.items
      → slice_index_or l.places.items i 0 ≡ slice_index_or l.initial.places.items i 0;
}
