use Rattle.kob_scene_play.proofs.Words.{take, ◌≡◌}
use Rattle.kob_scene_play.proofs.every.copied.Given as goal

abbrev pub invariant-loop-row : goal.invariant-loop-row
invariant-loop-row l = l.made.items ≡ take l.row-index l.rows
