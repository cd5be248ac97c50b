-- The first such line is one of those that are left.
use Rattle.std.proofs.Common.{drop, map, ◌+◌, ◌≡◌}
use Rattle.kob.specs.Unmet.{has_question}
use Rattle.kob_mistakes.specs.Lines.{line_where}
use Rattle.kob.proofs.unmet.line_among.Given as goal

abbrev pub invariant-loop-line : goal.invariant-loop-line
invariant-loop-line l =
    (line_where (has_question l.question) l.number (map (λ line. line.now) (drop l.line-index l.lines))
    ≡ line_where (has_question l.question) 1 (map (λ line. line.now) l.lines))
    × (l.number ≡ l.line-index + 1)
