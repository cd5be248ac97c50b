use Rattle.std.proofs.Common.{take, ◌≡◌}
use Rattle.std.specs.List.{filter}
use Rattle.kob_policy_review.specs.Users.{is_gained}
use Rattle.kob_policy_review.proofs.supers.gained_supers.Given as goal

abbrev pub invariant-loop-user : goal.invariant-loop-user
invariant-loop-user l =
    l.found.items ≡ filter (is_gained l.before.contents.supers) (take l.user-index l.user-items)
