use Rattle.kob_pipeline.proofs.Words.{AtDesk, IsConsumption, Noted, ap, subst, sym, ◌∙◌}
use Rattle.kob_pipeline.proofs.Worked.{consumption_of}
use Rattle.kob_pipeline.proofs.consumer_worker.consume.Goals as goal

pub returns-in-Ok : goal.returns-in-Ok
returns-in-Ok g c =
    let consumer = c.args.consumer.now in
    let begun = c.open-line.ensures.desk ∙ c.in_ok-desk.ensures in
    subst (λ (noted : Noted). IsConsumption consumer noted c.in-Ok.left) (sym c.settle.ensures)
    (consumption_of consumer c.open-line.result.desk c.leave.new.line.desk c.in-Ok.left
    (ap (λ (d : AtDesk). d.noted) begun) (ap (λ (d : AtDesk). d.seat.principal) begun)
    (ap (λ (d : AtDesk). d.seat.host) begun) c.in-Ok.ensures)
