use Rattle.kob_script.proofs.Imports.{err_from_is_err_and, script_so_far, ◌∙◌}
use Rattle.kob_script.proofs.CheckedLines.{keeps_one, line_checked, words_fail}
use Rattle.kob_script.proofs.script.check_answered.Goals as goal

pub returns-in_err-check_words : goal.returns-in_err-check_words
returns-in_err-check_words c = λ line events has asks counts.
    let p = err_from_is_err_and c.from_residual-in_err-check_words.result c.from_residual-in_err-check_words.ensures.1 in
    rw (p.1, p.2)
    (words_fail (script_so_far c.args.checking.now events) line c.check_words.new.checking
    c.args.answers.now.items c.args.answers.now.items c.args.words.now c.in_ok-answer.answer _
    has c.in_ok-answer.ensures.answer (rw c.as_ref.ensures.value at (c.in_err-check_words.ensures.next events counts)))

pub returns : goal.returns
returns c = λ line events has asks counts.
    line_checked (script_so_far c.args.checking.now events) line c.check_words.new.checking
    c.args.answers.now.items _ c.args.words.now c.in_ok-answer.answer has c.in_ok-answer.ensures.answer
    (c.in_ok-push.ensures.items ∙ keeps_one _ c.args.words.now c.in_ok-answer.answer asks)
    (rw c.as_ref.ensures.value at (c.in_ok-check_words.ensures.next events counts))
