use Rattle.std.proofs.KnownBytes.{Appends-nil}
use Rattle.kob_scene_play.proofs.Played.{scene_cut, scene_unopened, scene_whole}
use Rattle.kob_scene_play.proofs.playing.play_scene.Goals as goal

pub returns-in-Err : goal.returns-in-Err
returns-in-Err g c =
    scene_unopened c.args.shown.now c.args.scene c.args.page.now.told _ c.args.page.now.text.items c.in-Err.fault
    c.in-Err.ensures.stopped c.requires.told
    c.requires.text (Appends-nil _)

pub returns-in-None : goal.returns-in-None
returns-in-None g c =
    scene_whole c.args.shown.now c.args.scene c.in-Ok.stage c.play_steps-played.new.stage c.args.page.now.told
    c.play_steps-played.new.page.told _ _ c.args.page.now.text.items c.play_steps-played.new.page.text.items c.requires.told
    c.requires.text
    (c.in-Ok.ensures.broker, c.in-Ok.ensures.met, c.in-Ok.ensures.services, c.in-Ok.ensures.consumers)
    (rw c.in-None.is at (rw c.deref.ensures.value at (rw c.deref-2.ensures.value at c.in_ok-played.ensures)))

pub returns : goal.returns
returns g c =
    scene_cut c.args.shown.now c.args.scene c.in-Ok.stage c.play_steps-played.new.stage c.args.page.now.told
    c.play_steps-played.new.page.told _ _ c.args.page.now.text.items c.play_steps-played.new.page.text.items c.in-Some.fault
    c.requires.told c.requires.text
    (c.in-Ok.ensures.broker, c.in-Ok.ensures.met, c.in-Ok.ensures.services, c.in-Ok.ensures.consumers)
    (rw c.in-Some.is at (rw c.deref.ensures.value at (rw c.deref-2.ensures.value at c.in_ok-played.ensures)))
