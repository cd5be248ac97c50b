use Rattle.kob_scene_play.proofs.Written.{scene_written}
use Rattle.kob_scene_play.proofs.text.play_text.Goals as goal

pub returns-in-Ok : goal.returns-in-Ok
returns-in-Ok g c =
    scene_written c.args.form c.args.text.now _ c.in-Ok.scene c.play.result _ _ c.in_ok-shown.ensures c.in-Ok.ensures.read
    c.in-Ok.ensures.lines c.play.ensures
