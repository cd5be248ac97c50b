use Rattle.kob_scene_play.proofs.Played.{scene_stopped, scene_written}
use Rattle.kob_scene_play.proofs.playing.play.Goals as goal

pub returns-then-unmet-eq0 : goal.returns-then-unmet-eq0
returns-then-unmet-eq0 g c = (
  c.in-Whole.unmet,
  c.if-unmet-eq0.true,
  scene_written c.args.shown.now c.args.scene c.in-Whole.unmet c.play_scene.new.page.told _ _ _ c.play_scene.new.page.text.items
      (rw c.in-Whole.is at c.in_ok-unmet.ensures) c.in_ok-write-in-Whole.ensures.written,
)

pub returns-in-Whole : goal.returns-in-Whole
returns-in-Whole g c = (
  c.if-unmet-eq0.false,
  scene_written c.args.shown.now c.args.scene c.in-Whole.unmet c.play_scene.new.page.told _ _ _ c.play_scene.new.page.text.items
      (rw c.in-Whole.is at c.in_ok-unmet.ensures) c.in_ok-write-in-Whole.ensures.written,
)

pub returns : goal.returns
returns g c =
    scene_stopped c.args.shown.now c.args.scene c.play_scene.new.page.told _ _ _ c.play_scene.new.page.text.items
    c.in-Stopped.fault (rw c.in-Stopped.is at c.in_ok-unmet.ensures) c.in_ok-stop-in-Stopped.ensures
