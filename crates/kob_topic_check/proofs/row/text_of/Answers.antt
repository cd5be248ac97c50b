use Rattle.std.proofs.Common.{None, rules, Some, sym, ◌∙◌}
use Rattle.std.proofs.lemmas.Str.{IsUtf8-from_is_utf8, is_utf8-from_IsUtf8}
use Rattle.std.specs.Str.{is_utf8}
use Rattle.kob_words.proofs.Choices.{chosen_false, chosen_true, false_from}
use Rattle.kob_topic_check.proofs.row.text_of.Goals as goal

pub returns-in-Ok : goal.returns-in-Ok
returns-in-Ok c =
    sym (chosen_true (is_utf8 c.args.bytes.now) (Some c.args.bytes.now) None
    (is_utf8-from_IsUtf8 _ c.in-Ok.ensures.cases.1) ∙ search rules)

pub returns-in-Err : goal.returns-in-Err
returns-in-Err c =
    sym (chosen_false (is_utf8 c.args.bytes.now) (Some c.args.bytes.now) None
    (false_from (is_utf8 c.args.bytes.now) (IsUtf8-from_is_utf8 _) c.in-Err.ensures.cases.0))
