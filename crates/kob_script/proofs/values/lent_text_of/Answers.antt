use Rattle.kob_script.proofs.Imports.{Err, IsUtf8-from_is_utf8, Ok, is_utf8, is_utf8-from_IsUtf8, rules, sym, ◌∙◌}
use Rattle.kob_script.specs.Words.{BadText}
use Rattle.kob_words.proofs.Choices.{chosen_true, chosen_false, false_from}
use Rattle.kob_script.proofs.values.lent_text_of.Goals as goal

pub returns-in-Ok : goal.returns-in-Ok
returns-in-Ok c =
    sym (chosen_true (is_utf8 c.args.word.now.decoded) (Ok c.args.word.now.decoded) (Err BadText)
    (is_utf8-from_IsUtf8 _ (rw c.decoded.ensures at c.in-Ok.ensures.cases.1)) ∙ search rules)

pub returns-in-Err : goal.returns-in-Err
returns-in-Err c =
    sym (chosen_false (is_utf8 c.args.word.now.decoded) (Ok c.args.word.now.decoded) (Err BadText)
    (false_from (is_utf8 c.args.word.now.decoded) (IsUtf8-from_is_utf8 _) (rw c.decoded.ensures at c.in-Err.ensures.cases.0)))
