use Rattle.kob_scene_text.proofs.Words.{err_from_is_err_and, so_far}
use Rattle.kob_scene_text.proofs.SceneLines.{line_fails, line_read}
use Rattle.kob_scene_text.proofs.line.read_line.Goals as goal

pub returns-in_err-words : goal.returns-in_err-words
returns-in_err-words c =
    let p = err_from_is_err_and c.from_residual.result c.from_residual.ensures.1 in
    rw (p.1, p.2) (line_fails (so_far c.args.reading.now) c.args.line.now c.args.reading.now _ c.in_err-words.ensures.gives)

pub returns : goal.returns
returns c =
    line_read (so_far c.args.reading.now) c.args.line.now c.add-added.new.self c.in_ok-words.words.items c.in_ok-answer.answer
    c.add-added.result c.in_ok-words.ensures.gives (rw c.deref.ensures.value at c.in_ok-answer.ensures.answer)
    (rw c.deref-2.ensures.value at c.add-added.ensures)
