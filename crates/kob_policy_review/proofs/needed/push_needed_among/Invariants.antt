use Rattle.std.proofs.Common.{take, ◌++◌, ◌≡◌}
use Rattle.std.specs.List.{flat_map}
use Rattle.kob_policy_review.specs.Needed.{needed_from}
use Rattle.kob_policy_review.proofs.needed.push_needed_among.Given as goal

abbrev pub invariant-loop-host : goal.invariant-loop-host
invariant-loop-host l =
    l.out.items ≡ l.initial.out.items
    ++ flat_map (needed_from l.alone l.asking) (take l.host-index l.host-items)
