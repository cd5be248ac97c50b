-- The first such line is one of those that are left.
use Rattle.std.proofs.Common.{drop, map, ◌+◌, ◌≡◌}
use Rattle.kob_mistakes.specs.Lines.{line_where}
use Rattle.kob_mistakes.specs.Records.{is_with_state}
use Rattle.kob_mistakes.proofs.record.line_with_state.Given as goal

abbrev pub invariant-loop-line : goal.invariant-loop-line
invariant-loop-line l =
    (line_where (is_with_state l.fn.state) l.number (map (λ line. line.now) (drop l.line-index l.lines))
    ≡ line_where (is_with_state l.fn.state) 1 (map (λ line. line.now) l.lines))
    × (l.number ≡ l.line-index + 1)
