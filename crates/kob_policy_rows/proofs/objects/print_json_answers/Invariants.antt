-- The answers so far, and then those to the rest, are those to all.
use Rattle.std.proofs.Common.{drop, ◌++◌, ◌+◌, ◌≡◌}
use Rattle.kob_policy_rows.specs.Json.{answers_json}
use Rattle.kob_policy_rows.proofs.objects.print_json_answers.Given as goal

abbrev pub invariant-loop-query : goal.invariant-loop-query
invariant-loop-query l =
    (l.out.items ++ answers_json l.judge l.topics l.number (drop l.query-index l.queries)
    ≡ l.initial.out.items ++ answers_json l.judge l.topics 1 l.queries)
    × (l.number ≡ l.query-index + 1)
