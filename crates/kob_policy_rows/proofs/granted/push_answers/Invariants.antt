use Rattle.std.proofs.Common.{flat_map, take, ◌++◌, ◌≡◌}
use Rattle.kob_policy_rows.specs.Answers.{grant_rows}
use Rattle.kob_policy_rows.proofs.granted.push_answers.Given as goal

abbrev pub invariant-loop-answer : goal.invariant-loop-answer
invariant-loop-answer l =
    l.rows.items ≡ l.initial.rows.items ++ flat_map (grant_rows l.judge l.right l.answers) (take l.answer-index l.answers)
