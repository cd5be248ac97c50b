use Rattle.std.proofs.Common.{map, take, ◌++◌, ◌≡◌}
use Rattle.kob_policy_rows.specs.Answers.{from_row}
use Rattle.kob_policy_rows.proofs.granted.push_each.Given as goal

abbrev pub invariant-loop-principal : goal.invariant-loop-principal
invariant-loop-principal l =
    l.rows.items ≡ l.initial.rows.items ++ map (from_row l.judge l.right l.host) (take l.principal-index l.principals)
