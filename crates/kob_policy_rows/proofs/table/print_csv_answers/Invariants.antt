use Rattle.std.proofs.Common.{flat_map, take, ◌++◌, ◌≡◌}
use Rattle.kob_policy_rows.specs.Csv.{answer_text}
use Rattle.kob_policy_rows.proofs.table.print_csv_answers.Given as goal

abbrev pub invariant-loop-query : goal.invariant-loop-query
invariant-loop-query l =
    l.out.items ≡ l.initial.out.items ++ flat_map (answer_text l.judge l.topics) (take l.query-index l.queries)
