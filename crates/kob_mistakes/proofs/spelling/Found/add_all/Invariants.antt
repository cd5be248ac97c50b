-- The nearest of the names so far, and of those that are left, is the nearest of all.
use Rattle.std.proofs.Common.{drop, fold, map, ◌≡◌}
use Rattle.kob_mistakes.specs.Spelling.{with_nearer}
use Rattle.kob_mistakes.proofs.spelling.Found.add_all.Given as goal

abbrev pub invariant-loop-name : goal.invariant-loop-name
invariant-loop-name l =
    fold (with_nearer l.word) l.self (map (λ name. name.now) (drop l.name-index l.names))
    ≡ fold (with_nearer l.word) l.initial.self (map (λ name. name.now) l.names)
