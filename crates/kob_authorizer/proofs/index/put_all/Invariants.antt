use Rattle.kob_authorizer.proofs.Words.{fold, with_leaf, ◌≡◌}
use Rattle.kob_authorizer.proofs.index.put_all.Given as goal

abbrev pub invariant-loop-leaf : goal.invariant-loop-leaf
invariant-loop-leaf l =
    (goal.iterator-loop-leaf).can_next l.leaf-iterator ×
    (goal.iterator-loop-leaf).is_finite l.leaf-iterator ×
    (l.index ≡ fold with_leaf l.fn.index l.yielded)
