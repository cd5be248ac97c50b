-- The first such line is one of those that are left.
use Rattle.std.proofs.Common.{drop, map, ◌+◌, ◌≡◌}
use Rattle.kob_mistakes.specs.Lines.{line_where}
use Rattle.kob_mistakes.specs.Quoted.{is_with_quotes}
use Rattle.kob_mistakes.proofs.quoted.line_with_quotes.Given as goal

abbrev pub invariant-loop-line : goal.invariant-loop-line
invariant-loop-line l =
    (line_where is_with_quotes l.number (map (λ line. line.now) (drop l.line-index l.lines))
    ≡ line_where is_with_quotes 1 (map (λ line. line.now) l.lines))
    × (l.number ≡ l.line-index + 1)
