use Rattle.kob_ordered.proofs.Words.{IsSound, [], subst, sym}
use Rattle.kob_ordered.proofs.Sound.{sound_empty}
use Rattle.kob_ordered.proofs.ordered_map.OrderedMap.new.Goals as goal

pub invariant_of-result : goal.invariant_of-result
invariant_of-result g c =
    subst (λ xs. IsSound xs c.new-2.result.items) (sym c.new.ensures.items)
    (subst (IsSound []) (sym c.new-2.ensures.items) sound_empty)
