use Rattle.kob_script.proofs.Imports.{Bor, Fault, List, arith, map-append, sym, text_of, ℕ}
use Rattle.kob_script.proofs.Each.{each_fails, each_keeps, each_ends}
use Rattle.kob_script.proofs.values.texts_of.Goals as goal

pub returns-in-Err-clause-gives : goal.returns-in-Err-clause-gives
returns-in-Err-clause-gives c =
    each_fails text_of _ c.loop-word.word-index _ _ _ (Fault c.in-Err.kind) c.loop-word.invariant (omega arith) c.word-item.is
    (sym c.in-Err.ensures)

pub loop-word-preserved : goal.loop-word-preserved
loop-word-preserved c =
    rw (c.in_ok-push-in-Ok.ensures.items, map-append (λ (text : Bor (List ℕ)). text.now) _ _)
    (each_keeps text_of _ c.loop-word.word-index _ _ _ _ c.loop-word.invariant
    (omega arith) c.word-item.is (sym c.in-Ok.ensures))

pub returns-clause-gives : goal.returns-clause-gives
returns-clause-gives c = each_ends text_of _ c.loop-word.word-index _ c.loop-word.invariant (omega arith)
