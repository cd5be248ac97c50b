use Rattle.std.proofs.Common.{map, nat_eq, take, ℕ, ◌≡◌}
use Rattle.std.specs.HashSet.{contains}
use Rattle.kob_delivery_check.specs.Fates.{is_in_inbox}
use Rattle.kob_delivery_check.proofs.fates.ids_of_inbox.Given as goal

abbrev pub invariant-loop-row : goal.invariant-loop-row
invariant-loop-row l = (id : ℕ) → contains nat_eq l.set id
    ≡ is_in_inbox (map (λ event. event.now) l.events) (take l.row-index l.rows) id
