use Rattle.std.proofs.Common.{map, take, ◌++◌, ◌≡◌}
use Rattle.kob_policy_rows.specs.Answers.{super_reach}
use Rattle.kob_policy_rows.proofs.reached.push_supers.Given as goal

abbrev pub invariant-loop-user : goal.invariant-loop-user
invariant-loop-user l = l.rows.items ≡ l.initial.rows.items ++ map (super_reach l.right) (take l.user-index l.supers)
