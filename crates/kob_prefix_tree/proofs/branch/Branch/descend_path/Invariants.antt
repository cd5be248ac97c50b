use Rattle.kob_prefix_tree.proofs.Words.{IsWay, contents, key_of, length}
use Rattle.kob_prefix_tree.proofs.branch.Branch.descend_path.Given as goal

abbrev pub invariant-loop-byte : goal.invariant-loop-byte
invariant-loop-byte l =
    IsWay l.above.nodes (key_of l.path.nodes) (key_of l.initial.path.nodes) (contents l.initial.self) (contents l.self)

abbrev pub decreases-loop-byte : goal.decreases-loop-byte
decreases-loop-byte l = length (key_of l.path.nodes)
