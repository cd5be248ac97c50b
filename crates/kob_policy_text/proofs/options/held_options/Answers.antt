use Rattle.kob_policy_text.proofs.Words.{arith, refl}
use Rattle.kob_policy_text.proofs.Passing.{passes_all, passes_more}
use Rattle.kob_policy_text.proofs.options.held_options.Goals as goal

pub loop-word-preserved : goal.loop-word-preserved
loop-word-preserved c =
    rw c.next_place-place.ensures
    (passes_more _ _ c.loop-word.word-index _ _ _ _ _ c.loop-word.invariant (omega arith) refl
    c.in_ok-push_held.ensures)

pub returns : goal.returns
returns c = passes_all _ _ c.loop-word.word-index _ _ c.loop-word.invariant (omega arith)
