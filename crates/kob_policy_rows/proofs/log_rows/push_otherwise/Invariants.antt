use Rattle.std.proofs.Common.{flat_map, take, ◌++◌, ◌≡◌}
use Rattle.kob_policy_rows.specs.Logs.{otherwise_row}
use Rattle.kob_policy_rows.proofs.log_rows.push_otherwise.Given as goal

abbrev pub invariant-loop-entry : goal.invariant-loop-entry
invariant-loop-entry l =
    l.rows.items ≡ l.initial.rows.items ++ flat_map (otherwise_row l.judge) (take l.entry-index l.accesses)
