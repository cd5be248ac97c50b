use Rattle.kob_inbox.proofs.Words.{first_partitions, ◌≡◌}
use Rattle.kob_inbox.proofs.fetcher.Subscription.of.Given as goal

abbrev pub invariant-loop-partition : goal.invariant-loop-partition
invariant-loop-partition l = l.assignment.items ≡ first_partitions l.topic l.partition
