use Rattle.std.proofs.Common.{flat_map, take, ◌++◌, ◌≡◌}
use Rattle.kob_policy_text.specs.Review.{change_line}
use Rattle.kob_policy_text.proofs.changes.push_each.Given as goal

abbrev pub invariant-loop-change : goal.invariant-loop-change
invariant-loop-change l =
    l.out.items ≡ l.initial.out.items ++ flat_map change_line (take l.change-index l.found)
