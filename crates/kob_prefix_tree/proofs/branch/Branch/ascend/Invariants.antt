use Rattle.kob_prefix_tree.proofs.Words.{contents, count, unwound, ◌≡◌}
use Rattle.kob_prefix_tree.proofs.branch.Branch.ascend.Given as goal

abbrev pub invariant-loop-self : goal.invariant-loop-self
invariant-loop-self l =
    unwound l.above.nodes (contents l.self) ≡ unwound l.initial.above.nodes (contents l.initial.self)

abbrev pub decreases-loop-self : goal.decreases-loop-self
decreases-loop-self l = count l.above.nodes
