use Rattle.std.proofs.Common.{nat_eq, take, ℕ, ◌≡◌}
use Rattle.std.specs.HashSet.{contains}
use Rattle.kob_delivery_check.specs.Order.{has_come}
use Rattle.kob_delivery_check.proofs.come.ids_come.Given as goal

abbrev pub invariant-loop-place : goal.invariant-loop-place
invariant-loop-place l = (id : ℕ) → contains nat_eq l.set id ≡ has_come (take l.place l.arrivals) id
