-- What is due on the partitions that are left is due on all.
use Rattle.std.proofs.Common.{drop, ◌≡◌}
use Rattle.kob_delivery_check.specs.Starts.{start_due}
use Rattle.kob_delivery_check.proofs.start.start_due.Given as goal

abbrev pub invariant-loop-place : goal.invariant-loop-place
invariant-loop-place l =
    start_due l.journal l.fn.consumer (drop l.place-index l.fn.consumer.subscription.assignment)
    ≡ start_due l.journal l.fn.consumer l.fn.consumer.subscription.assignment
