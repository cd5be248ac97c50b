use Rattle.kob_pipeline.proofs.Words.{AtDesk, IsServiceRun, Noted, Service, ap, subst, sym, ◌∙◌}
use Rattle.kob_pipeline.proofs.Worked.{service_run_of}
use Rattle.kob_pipeline.proofs.service_worker.ServiceWorker.work.Goals as goal

pub returns-in-Ok : goal.returns-in-Ok
returns-in-Ok g c =
    let service = c.args.self.now in
    let begun = c.open-line.ensures.desk ∙ c.in_ok-desk.ensures in
    let same = c.self.view_is in
    subst (λ (noted : Noted). IsServiceRun service noted c.in-Ok.left) (sym c.settle.ensures)
    (service_run_of service c.open-line.result.desk c.leave.new.line.desk c.in-Ok.left
    (ap (λ (d : AtDesk). d.noted) begun)
    (ap (λ (d : AtDesk). d.seat.principal) begun ∙ ap (λ (s : Service). s.principal) same)
    (ap (λ (d : AtDesk). d.seat.host) begun ∙ ap (λ (s : Service). s.host) same) c.in-Ok.ensures)
