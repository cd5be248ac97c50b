use Rattle.kob_scene_play.proofs.Words.{rules}
use Rattle.kob_inbox.specs.Run.{place_at}
use Rattle.kob_scene_play.proofs.Listed.{text_more}
use Rattle.kob_scene_play.specs.Takings.{intake_at}
use Rattle.kob_scene_play.proofs.every.Every.take_records.Goals as goal

pub loop-at-preserved : goal.loop-at-preserved
loop-at-preserved c =
    text_more (intake_at (place_at c.args.asked.now.topic c.args.asked.now.partition)) c.args.records.now c.loop-at.at-index
    c.loop-at-item.result c.args.self.now c.loop-at.self c.push.new.self c.loop-at-test.true c.loop-at-item.is
    c.loop-at.invariant (search rules)
