use Rattle.kob_script.proofs.Imports.{err_from_is_err_and, rules, word_of}
use Rattle.kob_script.proofs.Each.{front_ends, front_fails, front_keeps}
use Rattle.kob_script.proofs.words.read_words.Goals as goal

pub returns-in_err-word : goal.returns-in_err-word
returns-in_err-word c =
    let p = err_from_is_err_and c.from_residual-in_err-word.result c.from_residual-in_err-word.ensures.1 in
    rw (p.1, p.2) (front_fails word_of _ _ _ _ _ c.loop-raw.invariant c.in-Some.ensures.next _ c.in_err-word.ensures)

pub loop-raw-preserved : goal.loop-raw-preserved
loop-raw-preserved c =
    rw c.in_ok-push.ensures.items
    (front_keeps word_of _ _ _ _ _ c.loop-raw.invariant c.in-Some.ensures.next _ c.in_ok-word.ensures)

pub returns : goal.returns
returns c = front_ends word_of _ _ _ c.loop-raw.invariant (search rules)
