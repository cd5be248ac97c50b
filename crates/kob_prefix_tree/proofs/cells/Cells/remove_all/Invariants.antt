use Rattle.kob_prefix_tree.proofs.Words.{has_in_turn, length, without_in_turn, ◌++◌, ◌||◌, ◌≡◌}
use Rattle.kob_prefix_tree.proofs.cells.Cells.remove_all.Given as goal

abbrev pub invariant-loop-next : goal.invariant-loop-next
invariant-loop-next l = record {
  left : without_in_turn l.serials l.initial.self ≡ l.kept ++ without_in_turn l.sought l.self;
  found : (has_in_turn l.serials l.initial.self ≡ (l.found || has_in_turn l.sought l.self));
}

abbrev pub decreases-loop-next : goal.decreases-loop-next
decreases-loop-next l = length l.self
