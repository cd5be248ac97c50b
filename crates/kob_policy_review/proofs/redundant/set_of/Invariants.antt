use Rattle.std.proofs.Common.{nat_eq, take, ◌==◌, ◌≡◌, ℕ}
use Rattle.std.specs.HashSet.{contains}
use Rattle.std.specs.List.{list_any}
use Rattle.kob_policy_review.proofs.redundant.set_of.Given as goal

abbrev pub invariant-loop-serial : goal.invariant-loop-serial
invariant-loop-serial l =
    (serial : ℕ) → contains nat_eq l.set serial ≡ list_any (λ other. other == serial) (take l.serial-index l.serials)
