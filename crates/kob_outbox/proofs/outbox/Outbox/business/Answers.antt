use Rattle.kob_outbox.proofs.statements.Words.{OutOfMemory, SqliteFailure, column, contents, rules, state_at, ◌≡◌}
use Rattle.kob_outbox.proofs.Reading.{state_readable}
use Rattle.kob_outbox.proofs.Business.{text_at}
use Rattle.kob_outbox.proofs.statements.Plain.{readable_fails}
use Rattle.kob_outbox.proofs.outbox.Outbox.business.Goals as goal

pub returns-in_err-get-in-Some-clause-memory : goal.returns-in_err-get-in-Some-clause-memory
returns-in_err-get-in-Some-clause-memory c =
    let all = (contents c.self.inside.conn).business in let row = c.in-Some.row.now in
    let text = state_readable (state_at c.args.kind.now c.args.id.now all) _ row
    (λ s. text_at c.args.kind.now c.args.id.now _ all s c.self.invariant.service.holds.business)
    c.in_ok-select_business.ensures.rows (search rules) in
    let is : c.in_err-get-in-Some.field-0.0 ≡ SqliteFailure OutOfMemory =
    readable_fails 0 (column row 0) c.in_err-get-in-Some.field-0.0 _ c.in_err-get-in-Some.ensures.named
    (λ other. c.in_err-get-in-Some.ensures.kind other text.0) text.1 in
    grind (rules, is)
