use Rattle.std.proofs.Common.{flat_map, None, take, ◌++◌, ◌≡◌}
use Rattle.kob_policy_rows.specs.Cells.{bound_rows}
use Rattle.kob_policy_rows.proofs.bound.push_listed.Given as goal

abbrev pub invariant-loop-serial : goal.invariant-loop-serial
invariant-loop-serial l =
    l.rows.items ≡ l.initial.rows.items ++ flat_map (bound_rows l.judge None) (take l.serial-index l.serials)
