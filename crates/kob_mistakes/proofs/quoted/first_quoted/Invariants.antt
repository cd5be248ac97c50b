-- The first such word of those that are left is that of all.
use Rattle.std.proofs.Common.{drop, find, map, ◌≡◌}
use Rattle.kob_mistakes.specs.Quoted.{is_quoted}
use Rattle.kob_mistakes.proofs.quoted.first_quoted.Given as goal

abbrev pub invariant-loop-word : goal.invariant-loop-word
invariant-loop-word l =
    find is_quoted (map (λ word. word.now) (drop l.word-index l.words))
    ≡ find is_quoted (map (λ word. word.now) l.words)
