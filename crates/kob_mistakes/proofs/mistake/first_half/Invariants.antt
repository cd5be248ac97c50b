-- The first such word is one of those that are left.
use Rattle.std.proofs.Common.{drop, map, ◌≡◌}
use Rattle.kob_mistakes.specs.Lines.{line_where}
use Rattle.kob_mistakes.specs.Places.{is_half}
use Rattle.kob_mistakes.proofs.mistake.first_half.Given as goal

abbrev pub invariant-loop-word : goal.invariant-loop-word
invariant-loop-word l =
    (line_where is_half l.place (map (λ word. word.now) (drop l.word-index l.words))
    ≡ line_where is_half 0 (map (λ word. word.now) l.words))
    × (l.place ≡ l.word-index)
