use Rattle.kob_scene_text.proofs.Words.{arith, each_ends, each_fails, each_keeps, err_from_is_err_and, place_of}
use Rattle.kob_scene_text.proofs.consumer_lines.each_place.Goals as goal

pub returns-in_err-place : goal.returns-in_err-place
returns-in_err-place c =
    let p = err_from_is_err_and c.from_residual-in_err-place.result c.from_residual-in_err-place.ensures.1 in
    rw (p.1, p.2) (each_fails place_of _ c.loop-word.word-index _ _ _ _ c.loop-word.invariant
    (omega arith) c.word-item.is c.in_err-place.ensures)

pub loop-word-preserved : goal.loop-word-preserved
loop-word-preserved c =
    rw c.in_ok-push.ensures.items
    (each_keeps place_of _ c.loop-word.word-index _ _ _ _ c.loop-word.invariant
    (omega arith) c.word-item.is c.in_ok-place.ensures)

pub returns : goal.returns
returns c = rw c.from_vec.ensures (each_ends place_of _ c.loop-word.word-index _ c.loop-word.invariant (omega arith))
