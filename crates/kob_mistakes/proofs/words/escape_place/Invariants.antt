-- The first such word is one of those that are left.
use Rattle.std.proofs.Common.{drop, map, ◌≡◌}
use Rattle.kob_mistakes.specs.Lines.{is_misread, line_where}
use Rattle.kob_mistakes.proofs.words.escape_place.Given as goal

abbrev pub invariant-loop-word : goal.invariant-loop-word
invariant-loop-word l =
    (line_where is_misread l.place (map (λ word. word.now) (drop l.word-index l.words))
    ≡ line_where is_misread 0 (map (λ word. word.now) l.words))
    × (l.place ≡ l.word-index)
