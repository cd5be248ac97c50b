use Rattle.kob_prefix_tree.proofs.Words.{left_of, ◌++◌, ◌≡◌}
use Rattle.kob_prefix_tree.proofs.below.push_all.Given as goal

abbrev pub invariant-loop-serial : goal.invariant-loop-serial
invariant-loop-serial l =
    l.serials.items ++ left_of l.serial-iterator ≡ l.initial.serials.items ++ l.more
