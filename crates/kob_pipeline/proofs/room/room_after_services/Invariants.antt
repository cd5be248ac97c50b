use Rattle.kob_pipeline.proofs.Words.{sum_by, take, vec_len, ◌*◌, ◌+◌, ◌≡◌}
use Rattle.kob_pipeline.proofs.room.room_after_services.Given as goal

abbrev pub invariant-loop-service : goal.invariant-loop-service
invariant-loop-service l = l.left + 2 * sum_by (λ s. vec_len s.steps) (take l.service-index l.services) ≡ l.room
