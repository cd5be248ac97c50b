use Rattle.kob_scene_play.proofs.Words.{[], ap, append-nil, inl, length, refl, sym, ◌∙◌}
use Rattle.kob_scene_play.specs.Scenes.{show_by}
use Rattle.kob_scene_play.proofs.Played.{step_shown}
use Rattle.kob_scene_play.proofs.Running.{of_error}
use Rattle.kob_scene_play.proofs.playing.show_step.Goals as goal

pub returns-in_ok-show-in-Ok-clause-shown : goal.returns-in_ok-show-in-Ok-clause-shown
returns-in_ok-show-in-Ok-clause-shown c =
    step_shown (show_by c.args.showing.shown.now c.args.showing.lines.now) c.args.place c.len-before.result
    c.args.step.now c.args.stage.now c.play_step.new.stage c.journal-in-Ok.result.now c.args.page.now.told
    c.begin.new.self.told c.play_step.new.out.told c.show.new.self.told c.begin.new.self.text.items
    c.play_step.new.out.text.items c.args.page.now.text.items c.show.new.self.text.items c.begin.ensures.told
    c.begin.ensures.text (c.len-before.ensures ∙ ap length c.journal.ensures.value) c.journal-in-Ok.ensures.value
    (rw c.line_at.ensures at c.in-Ok.ensures.done) c.in_ok-show-in-Ok.ensures.told c.in_ok-show-in-Ok.ensures.text

pub returns-in_err-show-in-Ok-clause-stopped : goal.returns-in_err-show-in-Ok-clause-stopped
returns-in_err-show-in-Ok-clause-stopped c =
    let kept = c.in_err-show-in-Ok.ensures in
    of_error c.from_residual.result
    ([], inl (kept.count, refl), kept.kept ∙ sym (append-nil c.args.page.now.text.items))
