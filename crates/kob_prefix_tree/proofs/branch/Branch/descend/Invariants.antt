use Rattle.kob_prefix_tree.proofs.Words.{IsWay, contents, length}
use Rattle.kob_prefix_tree.proofs.branch.Branch.descend.Given as goal

abbrev pub invariant-loop-byte : goal.invariant-loop-byte
invariant-loop-byte l = IsWay l.above.nodes l.rest l.key (contents l.initial.self) (contents l.self)

abbrev pub decreases-loop-byte : goal.decreases-loop-byte
decreases-loop-byte l = length l.rest
