use Rattle.kob_pipeline.proofs.Words.{Swept, [], ap, refl, ◌∷◌}
use Rattle.kob_connections.specs.Relayed.{relayed_state}
use Rattle.kob_pipeline.proofs.Worked.{leads_still}
use Rattle.kob_pipeline.proofs.posting.Posting.sweep.Goals as goal

pub returns-clause-done : goal.returns-clause-done
returns-clause-done c = λ desk.
    leads_still (Swept ∷ [])
    (record { run = (tt, ap relayed_state c.in_ok-sweep.ensures.ok); own = (refl, refl) })
