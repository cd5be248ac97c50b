use Rattle.kob_script.proofs.Imports.{arith, drop_of_length-le, sym, text_of}
use Rattle.kob_script.proofs.Each.{fault_behind, fault_found, no_fault, value_at}
use Rattle.kob_script.proofs.values.check_texts.Goals as goal

pub returns-in-Err : goal.returns-in-Err
returns-in-Err c =
    fault_found text_of _ _ _ _ c.loop-word.invariant (value_at c.args.words.now c.loop-word.word-index _ _ (omega arith) c.word-item.is)
    _ (sym c.in-Err.ensures)

pub loop-word-preserved : goal.loop-word-preserved
loop-word-preserved c =
    fault_behind text_of _ _ _ _ c.loop-word.invariant (value_at c.args.words.now c.loop-word.word-index _ _ (omega arith) c.word-item.is)
    _ (sym c.in-Ok.ensures)

pub returns : goal.returns
returns c = no_fault text_of _ _ c.loop-word.invariant (drop_of_length-le c.args.words.now {i = c.loop-word.word-index} (omega arith))
