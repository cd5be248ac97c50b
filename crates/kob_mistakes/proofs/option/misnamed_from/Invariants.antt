-- The value that is not valid among the words that are left is that among all.
use Rattle.std.proofs.Common.{drop, ◌≡◌}
use Rattle.kob_mistakes.specs.Options.{misnamed}
use Rattle.kob_mistakes.proofs.option.misnamed_from.Given as goal

abbrev pub invariant-loop-at : goal.invariant-loop-at
invariant-loop-at l = misnamed l.at (drop l.at l.words) ≡ misnamed l.first (drop l.first l.words)
