use Rattle.kob_outbox.proofs.statements.Words.{IsUtf8-string_bytes, database, memory_is_clean, string_bytes}
use Rattle.kob_outbox.proofs.Business.{replaces}
use Rattle.kob_outbox.proofs.statements.Plain.{inside_keeps}
use Rattle.kob_outbox.proofs.business_table.replace_business.Goals as goal

pub returns : goal.returns
returns c =
    let change = c.args.change.now in let limit = c.execute.ensures.survives.limit in
    let ran = rw (c.params-to_sql.ensures, c.params-to_sql-2.ensures, c.params-to_sql-3.ensures)
    at (c.execute.ensures.runs (memory_is_clean c.execute.new.self.conn.now) c.requires.begun) in
    let it = replaces (database c.args.tx.now.conn.now) (database c.execute.new.self.conn.now)
    (record { kind = string_bytes change.kind; id = string_bytes change.id; state = string_bytes change.state })
    c.execute.result (IsUtf8-string_bytes change.state) c.requires limit ran in
    record {
      same_reference = c.execute.ensures.same_reference;
      changing = it.0;
      ok = it.1;
      kept = inside_keeps _ _ c.args.tx.now.conn.now c.execute.new.self.conn.now c.execute.result limit ran;
    }
