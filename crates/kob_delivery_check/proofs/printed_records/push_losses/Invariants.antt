use Rattle.std.proofs.Common.{map, take, ◌++◌, ◌≡◌}
use Rattle.std.specs.List.{flat_map}
use Rattle.kob_delivery_check.specs.PrintedRecords.{lost_item}
use Rattle.kob_delivery_check.proofs.printed_records.push_losses.Given as goal

abbrev pub invariant-loop-loss : goal.invariant-loop-loss
invariant-loop-loss l =
    l.out.items ≡ l.initial.out.items
    ++ flat_map (λ loss. lost_item l.journal l.assignment (map (λ event. event.now) l.events) loss) (take l.loss-index l.losses)
