use Rattle.kob_outbox.proofs.statements.Words.{contents, contents_in, shown_state, state_at, ◌≡◌}
use Rattle.kob_outbox.proofs.Reading.{answer_business}
use Rattle.kob_outbox.proofs.Texts.{select_business}
use Rattle.kob_outbox.proofs.statements.Selecting.{queried}
use Rattle.kob_outbox.proofs.business_table.select_business.Goals as goal

pub returns : goal.returns
returns c =
    let kind = c.args.kind.now in let id = c.args.id.now in let states = (contents c.args.conn.now).business in
    let it = queried (select_business kind id) contents_in c.args.conn.now c.query_all.new.self c.query_all.result
    (λ rows. rows ≡ shown_state (state_at kind id states)) c.requires c.query_all.ensures.survives.limit
    (λ rows. answer_business _ rows kind id states c.requires.holds.business)
    (rw (c.params-to_sql.ensures, c.params-to_sql-2.ensures) at c.query_all.ensures.ok)
    (rw (c.params-to_sql.ensures, c.params-to_sql-2.ensures) at c.query_all.ensures.err) in
    record { rows = it.rows; memory = it.memory; service = it.rests; same = it.same }
