use Rattle.kob_policy_text.proofs.Words.{arith, each_ends, each_fails, each_keeps, err_from_is_err_and}
use Rattle.kob_script.specs.Words.{word_of}
use Rattle.kob_policy_text.proofs.question.each_word.Goals as goal

pub returns-in_err-word : goal.returns-in_err-word
returns-in_err-word c =
    let p = err_from_is_err_and c.from_residual-in_err-word.result c.from_residual-in_err-word.ensures.1 in
    rw (p.1, p.2)
    (each_fails word_of _ c.loop-text.text-index _ _ _ _ c.loop-text.invariant (omega arith) c.text-item.is
    (rw c.as_slice.ensures at c.in_err-word.ensures.gives))

pub loop-text-preserved : goal.loop-text-preserved
loop-text-preserved c =
    rw c.in_ok-push.ensures.items
    (each_keeps word_of _ c.loop-text.text-index _ _ _ _ c.loop-text.invariant (omega arith) c.text-item.is
    (rw c.as_slice.ensures at c.in_ok-word.ensures.gives))

pub returns : goal.returns
returns c = each_ends word_of _ c.loop-text.text-index _ c.loop-text.invariant (omega arith)
