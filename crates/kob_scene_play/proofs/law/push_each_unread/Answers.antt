use Rattle.kob_scene_play.proofs.Words.{rules}
use Rattle.kob_scene_play.proofs.Listed.{text_more}
use Rattle.kob_scene_play.specs.Laws.{unread_text}
use Rattle.kob_scene_play.proofs.law.push_each_unread.Goals as goal

pub loop-place-preserved : goal.loop-place-preserved
loop-place-preserved c =
    text_more unread_text c.args.unread.now c.loop-place.place-index c.place-item.result c.args.out.now.items
    c.loop-place.out.items c.push_unread.new.out.items c.loop-place-test.true c.place-item.is c.loop-place.invariant
    (search rules)
