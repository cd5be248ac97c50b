-- A line that is left declares such a service if one of all does.
use Rattle.std.proofs.Common.{drop, map, ◌≡◌}
use Rattle.std.specs.List.{list_any}
use Rattle.kob_mistakes.specs.Records.{is_of_variant}
use Rattle.kob_mistakes.proofs.record.have_variant.Given as goal

abbrev pub invariant-loop-line : goal.invariant-loop-line
invariant-loop-line l =
    list_any (is_of_variant l.fn.variant) (map (λ line. line.now) (drop l.line-index l.lines))
    ≡ list_any (is_of_variant l.fn.variant) (map (λ line. line.now) l.lines)
