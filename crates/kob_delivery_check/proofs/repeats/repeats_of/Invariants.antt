use Rattle.std.proofs.Common.{nat_eq, take, ℕ, ◌==◌, ◌≡◌}
use Rattle.std.specs.HashSet.{contains}
use Rattle.std.specs.List.{enumerate_from, flat_map, list_any}
use Rattle.kob_delivery_check.specs.Repeats.{repeat_at}
use Rattle.kob_delivery_check.proofs.repeats.repeats_of.Given as goal

abbrev pub invariant-loop-place : goal.invariant-loop-place
invariant-loop-place l =
    (l.repeats.items ≡ flat_map (λ x. repeat_at l.records x) (enumerate_from 0 (take l.place l.records)))
    × ((id : ℕ) → contains nat_eq l.earlier id ≡ list_any (λ other. other.event == id) (take l.place l.records))
