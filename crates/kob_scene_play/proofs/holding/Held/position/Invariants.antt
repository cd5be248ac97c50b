use Rattle.kob_scene_play.proofs.Words.{take, ◌≡◌}
use Rattle.kob_inbox.specs.Run.{behind}
use Rattle.kob_scene_play.proofs.holding.Held.position.Given as goal

abbrev pub invariant-loop-at : goal.invariant-loop-at
invariant-loop-at l = l.position ≡ behind l.self.asked.offset (take l.at-index l.records)
