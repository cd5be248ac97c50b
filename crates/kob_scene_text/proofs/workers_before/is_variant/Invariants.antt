-- The lines that are left declare such a consumer if all do.
use Rattle.kob_scene_text.proofs.Words.{drop, map, ◌≡◌}
use Rattle.kob_scene_text.specs.Places.{is_variant}
use Rattle.kob_scene_text.proofs.workers_before.is_variant.Given as goal

abbrev pub invariant-loop-line : goal.invariant-loop-line
invariant-loop-line l =
    is_variant (map (λ line. line.now) (drop l.line-index l.before)) l.fn.name
    ≡ is_variant (map (λ line. line.now) l.before) l.fn.name
