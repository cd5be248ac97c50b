use Rattle.kob_pipeline.proofs.Words.{IfOk-weaker, InboxEnd, IsInboxLeft, enumerate_from, map, placed_intake, ◌≡◌}
use Rattle.kob_connections.specs.Received.{received_state}
use Rattle.kob_pipeline.proofs.consumer_worker.leave.Goals as goal

pub returns : goal.returns
returns g c =
    let consumer = c.args.consumer.now in
    let opened = c.in_ok-at_work.ensures in
    let at_last = c.run.new.self in
    let before = c.args.line.now.desk in
    let now = c.run.new.line.desk in
    let leads = rw (c.deref.ensures.value, opened.subscription, opened.state) at c.in_ok-run.ensures in
    IfOk-weaker c.close.result (λ (left : InboxEnd). map placed_intake left.rows.items ≡ enumerate_from 1 at_last.receiver.inbox)
    (IsInboxLeft consumer before now)
    (λ left rows. record { state = received_state at_last.receiver; leads = leads; rows = rows })
    c.close.ensures
