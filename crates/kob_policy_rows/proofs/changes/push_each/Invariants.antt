use Rattle.std.proofs.Common.{map, take, ◌++◌, ◌≡◌}
use Rattle.kob_policy_rows.specs.Changes.{change_row}
use Rattle.kob_policy_rows.proofs.changes.push_each.Given as goal

abbrev pub invariant-loop-change : goal.invariant-loop-change
invariant-loop-change l = l.rows.items ≡ l.initial.rows.items ++ map change_row (take l.change-index l.found)
