use Rattle.kob_broker.proofs.Words.{header_bytes, sum_by, take, ◌+◌, ◌≡◌}
use Rattle.kob_broker.proofs.batch_size.room_after_headers.Given as goal

-- the headers so far and what is left are the room
abbrev pub invariant-loop-header : goal.invariant-loop-header
invariant-loop-header l = l.left + sum_by header_bytes (take l.header-index l.headers) ≡ l.fn.room
