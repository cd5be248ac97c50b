use Rattle.std.proofs.Common.{map, take, ◌++◌, ◌≡◌}
use Rattle.kob_policy_rows.specs.Answers.{held_row}
use Rattle.kob_policy_rows.proofs.held.push_operations.Given as goal

abbrev pub invariant-loop-operation : goal.invariant-loop-operation
invariant-loop-operation l =
    l.rows.items ≡ l.initial.rows.items ++ map (held_row l.principal l.one) (take l.operation-index l.operations)
