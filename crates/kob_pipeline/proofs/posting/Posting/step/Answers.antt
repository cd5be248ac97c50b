use Rattle.kob_pipeline.proofs.Words.{Restarted, [], refl, ◌∷◌}
use Rattle.kob_pipeline.proofs.Worked.{leads_still}
use Rattle.kob_pipeline.proofs.posting.Posting.step.Goals as goal

pub returns-in-Restart-clause-done : goal.returns-in-Restart-clause-done
returns-in-Restart-clause-done g c =
    rw c.in-Restart.is
    (leads_still (Restarted ∷ [])
    (record { run = (tt, c.restart.ensures.done); own = (refl, refl) }))
