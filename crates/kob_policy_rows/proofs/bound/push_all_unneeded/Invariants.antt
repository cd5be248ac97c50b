use Rattle.std.proofs.Common.{flat_map, take, ◌++◌, ◌≡◌}
use Rattle.kob_policy_rows.specs.Answers.{unneeded_rows}
use Rattle.kob_policy_rows.proofs.bound.push_all_unneeded.Given as goal

abbrev pub invariant-loop-one : goal.invariant-loop-one
invariant-loop-one l =
    l.rows.items ≡ l.initial.rows.items ++ flat_map (unneeded_rows l.judge) (take l.one-index l.found)
