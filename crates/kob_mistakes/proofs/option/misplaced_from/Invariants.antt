-- The word that is misplaced among those that are left is that among all.
use Rattle.std.proofs.Common.{drop, false, ◌≡◌}
use Rattle.kob_mistakes.specs.Options.{misplaced}
use Rattle.kob_mistakes.proofs.option.misplaced_from.Given as goal

abbrev pub invariant-loop-at : goal.invariant-loop-at
invariant-loop-at l =
    misplaced l.is_taken l.at (drop l.at l.words) ≡ misplaced false l.first (drop l.first l.words)
