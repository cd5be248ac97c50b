use Rattle.std.proofs.Common.{fold, take, ◌≡◌}
use Rattle.kob_policy_text.specs.Nearest.{none_near, with_nearer}
use Rattle.kob_policy_text.proofs.nearest.nearest_of.Given as goal

abbrev pub invariant-loop-other : goal.invariant-loop-other
invariant-loop-other l =
    l.nearest ≡ fold (with_nearer l.name) (none_near l.name) (take l.other-index l.others)
