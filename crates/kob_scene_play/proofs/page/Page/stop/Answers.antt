use Rattle.kob_scene_play.proofs.Words.{ap, stopped_shown, ◌++◌, ◌∙◌, ◌≡◌}
use Rattle.kob_scene_play.proofs.Written.{written_behind}
use Rattle.kob_scene_play.proofs.page.Page.stop.Goals as goal

pub returns : goal.returns
returns g c =
    let was = c.args.self.now in
    let shown = c.args.shown.now in
    let text : c.push_stopped.new.out.items ≡ stopped_shown shown was.told =
    c.in_ok-push_stopped.ensures ∙ ap (λ xs. xs ++ stopped_shown shown c.write.new.self.told) c.in_ok-write.ensures.empty
    ∙ ap (stopped_shown shown) c.in_ok-write.ensures.told in
    written_behind c.write-2.result _ _ _ was.text.items (stopped_shown shown was.told)
    c.in_ok-write.ensures.written (rw text at c.write-2.ensures.written)
