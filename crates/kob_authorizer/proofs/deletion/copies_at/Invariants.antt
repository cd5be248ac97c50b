use Rattle.kob_authorizer.proofs.Words.{bindings_taken, entry_at, take, ◌≡◌}
use Rattle.std.specs.List.{filter_map}
use Rattle.kob_authorizer.proofs.deletion.copies_at.Given as goal

abbrev pub invariant-loop-serial : goal.invariant-loop-serial
invariant-loop-serial l =
    l.copies.items ≡ bindings_taken l.filter (filter_map (entry_at l.entries) (take l.serial-index l.serials))
