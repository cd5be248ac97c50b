use Rattle.kob_delivery.proofs.Words.{dispatch_of, false, list_any, map, take, ◌≡◌}
use Rattle.kob_delivery.specs.Several.{goes_to_topic}
use Rattle.kob_outbox.specs.Contents.{stored_row}
use Rattle.kob_delivery.proofs.shared_topics.are_routed_to.Given as goal

abbrev pub invariant-loop-row : goal.invariant-loop-row
invariant-loop-row l =
    list_any (goes_to_topic (dispatch_of l.target) l.topic) (map stored_row (take l.row-index l.rows)) ≡ false
