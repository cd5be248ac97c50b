use Rattle.std.proofs.Common.{append_assoc, arith}
use Rattle.std.proofs.lemmas.Str.{IsUtf8-from_is_utf8, is_utf8-from_IsUtf8}
use Rattle.std.specs.Str.{is_utf8}
use Rattle.kob_words.proofs.Choices.{chosen_false, chosen_true, false_from}
use Rattle.kob_policy_rows.specs.Json.{question_tokens}
use Rattle.kob_policy_rows.proofs.objects.push_question.Goals as goal

pub returns-in-Ok-clause-tokens : goal.returns-in-Ok-clause-tokens
unfolding question_tokens
returns-in-Ok-clause-tokens c =
    rw (chosen_true (is_utf8 c.args.text.now) _ _ (is_utf8-from_IsUtf8 _ c.in-Ok.ensures.cases.1))
    (grind (arith, append_assoc))

pub returns-in-Err-clause-tokens : goal.returns-in-Err-clause-tokens
unfolding question_tokens
returns-in-Err-clause-tokens c =
    rw (chosen_false (is_utf8 c.args.text.now) _ _
    (false_from (is_utf8 c.args.text.now) (IsUtf8-from_is_utf8 _) c.in-Err.ensures.cases.0))
    (grind (arith, append_assoc))
