use Rattle.std.proofs.Common.{flat_map, take, ◌++◌, ◌≡◌}
use Rattle.kob_policy_rows.specs.Answers.{held_rows}
use Rattle.kob_policy_rows.proofs.held.push_each.Given as goal

abbrev pub invariant-loop-one : goal.invariant-loop-one
invariant-loop-one l =
    l.rows.items ≡ l.initial.rows.items ++ flat_map (held_rows l.principal l.host) (take l.one-index l.found)
