-- The worker that the lines that are left declare is that which all declare.
use Rattle.std.proofs.Common.{drop, map, ◌≡◌}
use Rattle.kob_mistakes.specs.Workers.{kind_named}
use Rattle.kob_mistakes.proofs.worker.kind_named.Given as goal

abbrev pub invariant-loop-line : goal.invariant-loop-line
invariant-loop-line l =
    kind_named (map (λ line. line.now) (drop l.line-index l.before)) l.name
    ≡ kind_named (map (λ line. line.now) l.before) l.name
