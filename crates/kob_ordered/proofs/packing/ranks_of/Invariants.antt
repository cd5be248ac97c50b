use Rattle.kob_ordered.proofs.Words.{length, rank, slice_index_or, ℕ, ◌<◌, ◌≡◌, ◌≤◌}
use Rattle.kob_ordered.proofs.packing.ranks_of.Given as goal

-- the ranks of the slots that were seen
abbrev pub invariant-loop-slot : goal.invariant-loop-slot
invariant-loop-slot g l = record {
  here : l.rank ≡ rank l.fn.slots l.slot-index;
  few : l.rank ≤ l.slot-index;
  size : length l.ranks.items ≡ l.slot-index;
  before : (place : ℕ) → place < l.slot-index → slice_index_or l.ranks.items place 0 ≡ rank l.fn.slots place;
}
