use Rattle.kob_inbox.proofs.Words.{contents, contents_in, enumerate_from, map, queried, shown_intake, ◌≡◌}
use Rattle.kob_inbox.proofs.Reading.{answer_taken}
use Rattle.kob_inbox.proofs.Texts.{select_taken}
use Rattle.kob_inbox.proofs.inbox_table.select_taken.Goals as goal

pub returns : goal.returns
returns c =
    let events = contents c.args.conn.now in
    let it = queried select_taken contents_in c.args.conn.now c.query_all.new.self c.query_all.result
    (λ rows. rows ≡ map shown_intake (enumerate_from 1 events)) c.requires c.query_all.ensures.survives.limit
    (λ rows. answer_taken _ rows events c.requires.holds.rows) c.query_all.ensures.ok c.query_all.ensures.err in
    record { rows = it.rows; memory = it.memory; inbox = it.rests; same = it.same }
