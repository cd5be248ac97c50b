use Rattle.std.proofs.Common.{map, take, ◌≡◌}
use Rattle.std.specs.List.{enumerate_from, flat_map}
use Rattle.kob_delivery_check.specs.Causes.{loss_at}
use Rattle.kob_delivery_check.proofs.cause.losses_of.Given as goal

abbrev pub invariant-loop-place : goal.invariant-loop-place
invariant-loop-place l =
    l.losses.items ≡ flat_map (λ x. loss_at l.reader l.rows l.journal (map (λ event. event.now) l.events) x)
    (enumerate_from 0 (take l.place l.fates))
