use Rattle.kob_scene_play.proofs.Words.{[], ap, append_assoc, arith, drop, length-take-le, sym, take, take-append-drop, take_all, take_more, ◌++◌, ◌+◌, ◌∙◌, ◌∷◌}
use Rattle.kob_scene_play.specs.Scenes.{show_by}
use Rattle.kob_scene_play.proofs.Played.{one_step_more, one_step_stops}
use Rattle.kob_scene_play.proofs.playing.play_steps.Goals as goal

pub loop-place-preserved : goal.loop-place-preserved
loop-place-preserved g c =
    let steps = c.args.steps.now in
    let before = take c.loop-place.place steps in
    let step = c.index-steps-place.result in
    let more =
    take_more steps c.loop-place.place step c.loop-place-test.true
    ∙ ap (λ next. before ++ next ∷ []) (sym c.index-steps-place.is) in
    rw more (rw c.in_ok-write_piece-in-Ok.ensures.told (one_step_more
    (show_by c.args.showing.shown.now c.args.showing.lines.now) c.loop-place.place before step c.args.stage.now
    c.loop-place.stage c.show_step.new.stage c.args.page.now.told c.loop-place.page.told c.show_step.new.page.told _ _ _
    c.args.page.now.text.items c.loop-place.page.text.items c.show_step.new.page.text.items
    c.write_piece.new.self.text.items (length-take-le c.loop-place.place steps (omega (arith, c.loop-place-test.true)))
    c.loop-place.invariant c.in-Ok.ensures.shown
    c.in_ok-write_piece-in-Ok.ensures.written))

pub returns-in-Err : goal.returns-in-Err
returns-in-Err g c =
    let steps = c.args.steps.now in
    let place = c.loop-place.place in
    let before = take place steps in
    let later = drop (place + 1) steps in
    let step = c.index-steps-place.result in
    let more =
    take_more steps place step c.loop-place-test.true ∙ ap (λ next. before ++ next ∷ []) (sym c.index-steps-place.is) in
    let split =
    sym (take-append-drop (place + 1) steps) ∙ ap (λ front. front ++ later) more ∙ append_assoc before (step ∷ []) later in
    one_step_stops (show_by c.args.showing.shown.now c.args.showing.lines.now) steps before later step c.args.stage.now
    c.loop-place.stage c.show_step.new.stage c.args.page.now.told c.loop-place.page.told c.show_step.new.page.told _ _
    c.args.page.now.text.items c.loop-place.page.text.items c.show_step.new.page.text.items c.in-Err.fault place split
    (sym (length-take-le place steps (omega (arith, c.loop-place-test.true))))
    c.loop-place.invariant c.in-Err.ensures.fault c.in-Err.ensures.stopped

pub returns : goal.returns
returns g c =
    rw (take_all c.loop-place.place c.args.steps.now c.loop-place-test.false) at c.loop-place.invariant
