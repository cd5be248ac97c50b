use Rattle.std.proofs.Common.{take, ◌≡◌}
use Rattle.std.specs.List.{flat_map}
use Rattle.kob_policy_review.specs.Finding.{found}
use Rattle.kob_policy_review.proofs.finder.picked.Given as goal

abbrev pub invariant-loop-serial : goal.invariant-loop-serial
invariant-loop-serial l = l.made.items ≡ flat_map (found l.entries) (take l.serial-index l.serials)
