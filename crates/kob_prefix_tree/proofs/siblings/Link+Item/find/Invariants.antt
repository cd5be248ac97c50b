use Rattle.kob_prefix_tree.proofs.Words.{count, siblings, trie_of, value_at, ◌≡◌}
use Rattle.kob_prefix_tree.proofs.siblings.Link+Item.find.Given as goal

abbrev pub invariant-loop-at : goal.invariant-loop-at
invariant-loop-at l =
    value_at l.byte (siblings (trie_of l.fn.self.nodes)) ≡ value_at l.byte (siblings (trie_of l.at.nodes))

abbrev pub decreases-loop-at : goal.decreases-loop-at
decreases-loop-at l = count l.at.nodes
