use Rattle.std.proofs.Common.{flat_map, take, ◌++◌, ◌≡◌}
use Rattle.kob_policy_rows.specs.Csv.{name_behind_comma}
use Rattle.kob_policy_rows.proofs.table.push_other_names.Given as goal

abbrev pub invariant-loop-column : goal.invariant-loop-column
invariant-loop-column l =
    l.out.items ≡ l.initial.out.items ++ flat_map name_behind_comma (take l.column-index l.columns)
