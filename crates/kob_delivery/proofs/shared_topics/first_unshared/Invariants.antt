use Rattle.kob_delivery.proofs.Words.{AllByRecursion, dispatch_of, map, take}
use Rattle.kob_delivery.specs.Several.{IsSharedTopic}
use Rattle.kob_outbox.specs.Contents.{stored_row}
use Rattle.kob_delivery.proofs.shared_topics.first_unshared.Given as goal

abbrev pub invariant-loop-assigned : goal.invariant-loop-assigned
invariant-loop-assigned l =
    AllByRecursion (λ p. IsSharedTopic (dispatch_of l.target) (map stored_row l.rows) l.sender l.taker l.group p.topic
    l.journal) (take l.assigned l.assignment)
