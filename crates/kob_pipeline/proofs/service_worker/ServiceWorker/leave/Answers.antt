use Rattle.kob_pipeline.proofs.Words.{IfOk, IsOutboxLeft, OutboxEnd, Service, later_than, map, stored_row, subst, ◌≡◌}
use Rattle.kob_pipeline.proofs.Worked.{if_ok_two, outbox_left}
use Rattle.kob_pipeline.proofs.service_worker.ServiceWorker.leave.Goals as goal

pub returns : goal.returns
returns g c =
    let service = c.self.inside.service.now in
    let opened = c.in_ok-posting.ensures in
    let at_last = c.run.new.self in
    let before = c.args.line.now.desk in
    let now = c.run.new.line.desk in
    let leads = rw (c.deref.ensures.value, opened.target, opened.state) at c.in_ok-run.ensures in
    subst (λ (s : Service). IfOk c.close.result (IsOutboxLeft s before now)) c.self.view_is
    (if_ok_two (λ (left : OutboxEnd). map stored_row left.rows.items ≡ later_than 0 at_last.relay.outbox.events)
    (λ (left : OutboxEnd). left.mark ≡ at_last.relay.outbox.mark) (IsOutboxLeft service before now) c.close.result
    (λ left rows mark. outbox_left service leads rows mark) c.close.ensures.rows c.close.ensures.mark)
