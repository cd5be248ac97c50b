use Rattle.kob_scene_play.proofs.Words.{WritesSteps, take}
use Rattle.kob_scene_play.specs.Scenes.{show_by}
use Rattle.kob_scene_play.proofs.playing.play_steps.Given as goal

abbrev pub invariant-loop-place : goal.invariant-loop-place
invariant-loop-place g l =
    WritesSteps (show_by l.showing.shown.now l.showing.lines.now) (take l.place l.steps) l.initial.stage l.stage
    l.initial.page.told l.page.told (g.W.Write.contents l.initial.writer) l.initial.page.text.items
    (g.W.Write.contents l.writer) l.page.text.items
