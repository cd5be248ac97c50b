use Rattle.std.proofs.Common.{flat_map, take, ◌++◌, ◌≡◌}
use Rattle.kob_policy_rows.specs.Changes.{super_rows}
use Rattle.kob_policy_rows.proofs.changes.push_supers.Given as goal

abbrev pub invariant-loop-user : goal.invariant-loop-user
invariant-loop-user l =
    l.rows.items ≡ l.initial.rows.items ++ flat_map (super_rows l.what l.others) (take l.user-index l.supers)
