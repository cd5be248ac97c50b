use Rattle.kob_scene_play.proofs.Words.{rules}
use Rattle.kob_scene_play.proofs.Listed.{text_more}
use Rattle.kob_scene_play.specs.Takings.{intakes_of}
use Rattle.kob_scene_play.proofs.every.Every.take_in.Goals as goal

pub loop-call-preserved : goal.loop-call-preserved
loop-call-preserved c =
    text_more intakes_of c.args.calls.now c.loop-call.call-index c.call-item.result c.args.self.now c.loop-call.self
    c.take_heard.new.self c.loop-call-test.true c.call-item.is c.loop-call.invariant (search rules)
