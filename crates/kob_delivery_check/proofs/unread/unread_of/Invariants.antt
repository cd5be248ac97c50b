use Rattle.std.proofs.Common.{take, ◌≡◌}
use Rattle.kob_delivery_check.specs.Unread.{unread_of}
use Rattle.kob_delivery_check.proofs.unread.unread_of.Given as goal

abbrev pub invariant-loop-at : goal.invariant-loop-at
invariant-loop-at l = l.found.items ≡ unread_of l.worker l.assignment (take l.at l.journal)
