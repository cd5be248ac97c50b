-- The lines that are left declare the name if all do.
use Rattle.kob_scene_text.proofs.Words.{drop, map, ◌≡◌}
use Rattle.kob_scene_text.specs.Places.{is_declared}
use Rattle.kob_scene_text.proofs.workers_before.is_declared.Given as goal

abbrev pub invariant-loop-line : goal.invariant-loop-line
invariant-loop-line l =
    is_declared l.fn.keyword (map (λ line. line.now) (drop l.line-index l.before)) l.fn.name
    ≡ is_declared l.fn.keyword (map (λ line. line.now) l.before) l.fn.name
