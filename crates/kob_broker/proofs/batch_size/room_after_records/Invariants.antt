use Rattle.kob_broker.proofs.Words.{record_bytes, sum_by, take, ◌+◌, ◌≡◌}
use Rattle.kob_broker.proofs.batch_size.room_after_records.Given as goal

-- the records so far and what is left are the room
abbrev pub invariant-loop-message : goal.invariant-loop-message
invariant-loop-message l = l.left + sum_by record_bytes (take l.message-index l.records) ≡ l.fn.room
