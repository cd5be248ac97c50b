use Rattle.std.proofs.lemmas.Str.{IsUtf8-from_is_utf8, is_utf8-from_IsUtf8}
use Rattle.std.specs.Str.{is_utf8}
use Rattle.std.proofs.Common.{None, Some, ap, sym, ◌∙◌}
use Rattle.kob_words.proofs.Choices.{chosen_false, chosen_true, false_from}
use Rattle.kob_mistakes.proofs.words.as_text.Goals as goal

pub returns-in-Ok : goal.returns-in-Ok
returns-in-Ok c =
    ap Some c.in-Ok.ensures.cases.0
    ∙ sym (chosen_true (is_utf8 c.args.bytes.now) (Some c.args.bytes.now) None
    (is_utf8-from_IsUtf8 _ c.in-Ok.ensures.cases.1))

pub returns-in-Err : goal.returns-in-Err
returns-in-Err c =
    sym (chosen_false (is_utf8 c.args.bytes.now) (Some c.args.bytes.now) None
    (false_from (is_utf8 c.args.bytes.now) (IsUtf8-from_is_utf8 _) c.in-Err.ensures.cases.0))
