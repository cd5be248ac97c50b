-- The answers so far, and then those to the rest, are those to all.
use Rattle.kob_policy_text.proofs.Words.{answers_text, drop, ◌++◌, ◌+◌, ◌≡◌}
use Rattle.kob_policy_text.proofs.answer.print_answers.Given as goal

abbrev pub invariant-loop-query : goal.invariant-loop-query
invariant-loop-query l =
    (l.out.items ++ answers_text l.judge l.topics l.number (drop l.query-index l.queries)
    ≡ l.initial.out.items ++ answers_text l.judge l.topics 1 l.queries)
    × (l.number ≡ l.query-index + 1)
