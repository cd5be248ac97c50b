use Rattle.std.proofs.Common.{map, nat_eq, take, ◌≡◌}
use Rattle.std.specs.HashSet.{contains}
use Rattle.std.specs.List.{filter}
use Rattle.kob_policy_review.specs.Redundancy.{is_outside, unused_entry}
use Rattle.kob_policy_review.proofs.redundant.outside.Given as goal

abbrev pub invariant-loop-entry : goal.invariant-loop-entry
invariant-loop-entry l = l.found.items
    ≡ map (unused_entry l.finder) (filter (is_outside (contains nat_eq l.set)) (take l.entry-index l.entries))
