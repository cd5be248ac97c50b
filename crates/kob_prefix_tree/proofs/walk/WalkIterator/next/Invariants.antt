use Rattle.kob_prefix_tree.proofs.Words.{left_of, ◌≡◌}
use Rattle.kob_prefix_tree.proofs.WalkLemmas.{steps_ahead}
use Rattle.kob_prefix_tree.proofs.walk.WalkIterator.next.Given as goal

abbrev pub invariant-loop-serial : goal.invariant-loop-serial
invariant-loop-serial l = left_of l.self ≡ left_of l.initial.self

abbrev pub decreases-loop-serial : goal.decreases-loop-serial
decreases-loop-serial l = steps_ahead l.self.ahead
