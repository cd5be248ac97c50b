use Rattle.std.proofs.Common.{flat_map, take, ◌++◌, ◌≡◌}
use Rattle.kob_policy_text.specs.Review.{super_line}
use Rattle.kob_policy_text.proofs.changes.push_supers.Given as goal

abbrev pub invariant-loop-user : goal.invariant-loop-user
invariant-loop-user l =
    l.out.items ≡ l.initial.out.items ++ flat_map (super_line l.what l.others) (take l.user-index l.supers)
