use Rattle.kob_scene_play.proofs.Words.{take, ◌++◌, ◌≡◌}
use Rattle.kob_scene_play.specs.Takings.{intakes_by}
use Rattle.kob_scene_play.proofs.every.Every.take_in.Given as goal

abbrev pub invariant-loop-call : goal.invariant-loop-call
invariant-loop-call l = l.self ≡ l.initial.self ++ intakes_by (take l.call-index l.calls)
