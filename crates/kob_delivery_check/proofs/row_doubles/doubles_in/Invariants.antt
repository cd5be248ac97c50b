use Rattle.std.proofs.Common.{nat_eq, take, ℕ, ◌≡◌}
use Rattle.std.specs.HashSet.{contains}
use Rattle.std.specs.List.{enumerate_from, flat_map}
use Rattle.kob_delivery_check.specs.Doubles.{double_at}
use Rattle.kob_delivery_check.specs.Order.{has_come}
use Rattle.kob_delivery_check.proofs.row_doubles.doubles_in.Given as goal

abbrev pub invariant-loop-place : goal.invariant-loop-place
invariant-loop-place l =
    (l.doubled.items ≡ flat_map (λ x. double_at l.arrivals x) (enumerate_from 0 (take l.place l.arrivals)))
    × ((id : ℕ) → contains nat_eq l.come id ≡ has_come (take l.place l.arrivals) id)
