use Rattle.kob_scene_play.proofs.Words.{flat_map, take, ◌++◌, ◌≡◌}
use Rattle.kob_inbox.specs.Run.{place_at}
use Rattle.kob_scene_play.specs.Takings.{intake_at}
use Rattle.kob_scene_play.proofs.every.Every.take_records.Given as goal

abbrev pub invariant-loop-at : goal.invariant-loop-at
invariant-loop-at l =
    l.self ≡ l.initial.self ++ flat_map (intake_at (place_at l.asked.topic l.asked.partition)) (take l.at-index l.records)
