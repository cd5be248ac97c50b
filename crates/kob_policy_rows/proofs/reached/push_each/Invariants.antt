use Rattle.std.proofs.Common.{flat_map, take, ◌++◌, ◌≡◌}
use Rattle.kob_policy_rows.specs.Answers.{reach_rows}
use Rattle.kob_policy_rows.proofs.reached.push_each.Given as goal

abbrev pub invariant-loop-one : goal.invariant-loop-one
invariant-loop-one l = l.rows.items ≡ l.initial.rows.items ++ flat_map (reach_rows l.right) (take l.one-index l.found)
