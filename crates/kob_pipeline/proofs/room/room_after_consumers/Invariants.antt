use Rattle.kob_pipeline.proofs.Words.{sum_by, take, vec_len, ◌*◌, ◌+◌, ◌≡◌}
use Rattle.kob_pipeline.proofs.room.room_after_consumers.Given as goal

abbrev pub invariant-loop-consumer : goal.invariant-loop-consumer
invariant-loop-consumer l = l.left + 2 * sum_by (λ s. vec_len s.steps) (take l.consumer-index l.consumers) ≡ l.room
