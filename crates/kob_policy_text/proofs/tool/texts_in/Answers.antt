use Rattle.kob_policy_text.proofs.Words.{Bor, List, arith, each_ends, each_fails, each_keeps, map-append, text_in, ℕ}
use Rattle.kob_policy_text.proofs.tool.texts_in.Goals as goal

pub returns-in-Err : goal.returns-in-Err
returns-in-Err c =
    each_fails text_in _ c.loop-word.word-index _ _ _ _ c.loop-word.invariant (omega arith) c.word-item.is
    (rw c.as_slice.ensures at c.in-Err.ensures)

pub loop-word-preserved : goal.loop-word-preserved
loop-word-preserved c =
    rw (c.in_ok-push-in-Ok.ensures.items, map-append (λ (text : Bor (List ℕ)). text.now) _ _)
    (each_keeps text_in _ c.loop-word.word-index _ _ _ _ c.loop-word.invariant (omega arith) c.word-item.is
    (rw c.as_slice.ensures at c.in-Ok.ensures))

pub returns : goal.returns
returns c = each_ends text_in _ c.loop-word.word-index _ c.loop-word.invariant (omega arith)
