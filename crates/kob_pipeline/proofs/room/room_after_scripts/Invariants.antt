use Rattle.kob_pipeline.proofs.Words.{sum_by, take, vec_len, ◌+◌, ◌≡◌}
use Rattle.kob_pipeline.proofs.room.room_after_scripts.Given as goal

abbrev pub invariant-loop-script : goal.invariant-loop-script
invariant-loop-script l = l.left + sum_by (λ s. vec_len s.requests) (take l.script-index l.scripts) ≡ l.room
