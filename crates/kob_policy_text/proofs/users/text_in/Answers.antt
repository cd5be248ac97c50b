use Rattle.kob_policy_text.proofs.Words.{IsUtf8-from_is_utf8, chosen_false, chosen_true, false_from, is_utf8, is_utf8-from_IsUtf8, rules, ◌∙◌}
use Rattle.kob_policy_text.proofs.users.text_in.Goals as goal

pub returns-in-Ok : goal.returns-in-Ok
returns-in-Ok c = chosen_true _ _ _ (is_utf8-from_IsUtf8 _ c.in-Ok.ensures.cases.1) ∙ search rules

pub returns-in-Err : goal.returns-in-Err
returns-in-Err c =
    chosen_false _ _ _ (false_from (is_utf8 c.args.bytes.now) (IsUtf8-from_is_utf8 _) c.in-Err.ensures.cases.0)
