use Rattle.std.proofs.Common.{flat_map, take, ◌++◌, ◌≡◌}
use Rattle.kob_policy_text.specs.Review.{listed_line}
use Rattle.kob_policy_text.proofs.idle.push_each.Given as goal

abbrev pub invariant-loop-serial : goal.invariant-loop-serial
invariant-loop-serial l =
    l.out.items ≡ l.initial.out.items ++ flat_map (listed_line l.judge) (take l.serial-index l.serials)
