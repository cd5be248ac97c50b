-- The lines that are left say how it sends as all do.
use Rattle.kob_scene_text.proofs.Words.{drop, map, ◌≡◌}
use Rattle.kob_scene_text.specs.Places.{sending_in}
use Rattle.kob_scene_text.proofs.workers_before.sending_in.Given as goal

abbrev pub invariant-loop-line : goal.invariant-loop-line
invariant-loop-line l =
    sending_in (map (λ line. line.now) (drop l.line-index l.before)) l.fn.name
    ≡ sending_in (map (λ line. line.now) l.before) l.fn.name
