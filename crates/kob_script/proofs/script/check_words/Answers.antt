use Rattle.kob_script.proofs.Imports.{FaultKind, List, Ok, Result, ap, arith, length-append, option_copied, rules, script_so_far, ◌++◌, ◌>>=◌, ◌∙◌}
use Rattle.kob_rights.specs.declared.event.Event.{Event}
use Rattle.kob_script.proofs.CheckedLines.{hides_none, no_setting, no_setting_fault, read_words_are_right}
use Rattle.kob_script.proofs.LineFaults.{were_counted}
use Rattle.kob_script.proofs.script.check_words.Goals as goal

pub returns-in_ok-checking-in_default-clause-next : goal.returns-in_ok-checking-in_default-clause-next
returns-in_ok-checking-in_default-clause-next c = λ events counts.
    let (asked, is, count) = were_counted _ c.in_ok-asked-in_default.asked c.in_ok-asked-in_default.ensures.gives in
    let sum = c.in_ok-checking-in_default.ensures in (
      events ++ asked,
      omega (arith, length-append events asked, sum.1, count, counts),
      no_setting (option_copied c.args.answer) _ c.args.words.now c.first-item.result (search rules) c.first-item.is (search rules)
          ∙ ap (λ (found : Result (List Event) FaultKind).
          found >>= λ more. Ok (script_so_far c.args.checking.now (events ++ more))) is,
    )

pub returns-in_err-checking-in_default-clause-memory : goal.returns-in_err-checking-in_default-clause-memory
returns-in_err-checking-in_default-clause-memory c = λ events counts.
    let (asked, is, count) = were_counted _ c.in_ok-asked-in_default.asked c.in_ok-asked-in_default.ensures.gives in
    hides_none c.from_residual-in_err-checking-in_default.result _
    (no_setting_fault _ c.args.words.now c.first-item.result (search rules) c.first-item.is (search rules)
    ∙ read_words_are_right (option_copied c.args.answer) c.args.words.now asked is)
