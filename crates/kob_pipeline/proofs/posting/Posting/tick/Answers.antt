use Rattle.kob_pipeline.proofs.Words.{ap, ◌∙◌}
use Rattle.kob_pipeline.proofs.Worked.{service_ticked}
use Rattle.kob_pipeline.proofs.posting.Posting.tick.Goals as goal

pub returns-clause-done : goal.returns-clause-done
returns-clause-done g c =
    service_ticked (ap (λ l. l.loss) c.lose.ensures) (ap (λ l. l.desk) c.lose.ensures)
    (ap (λ l. l.calls.unmade) c.lose.ensures ∙ c.requires) c.in_ok-goes_on-2.ensures.unmade
    (c.tick-tick.ensures.line c.in_ok-goes_on-2.ensures.fault) c.in_ok-goes_on.ensures.ok c.tick-tick.ensures.done.1
