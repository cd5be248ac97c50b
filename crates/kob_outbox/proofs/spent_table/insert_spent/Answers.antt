use Rattle.kob_outbox.proofs.statements.Words.{database, memory_is_clean, refl}
use Rattle.kob_outbox.proofs.statements.Plain.{inside_keeps}
use Rattle.kob_outbox.proofs.Recording.{adds, adds_again}
use Rattle.kob_outbox.proofs.spent_table.insert_spent.Goals as goal

pub returns : goal.returns
returns c =
    let was = c.requires.changing in let old = database c.args.tx.now.conn.now in
    let new = database c.execute.new.self.conn.now in let limit = c.execute.ensures.survives.limit in
    let ran = rw (c.params-to_sql.ensures, c.params-to_sql-2.ensures, c.requires.seq)
    at (c.execute.ensures.runs (memory_is_clean c.execute.new.self.conn.now) was.begun) in
    record {
      same_reference = c.execute.ensures.same_reference;
      ok = adds old new c.args.id.now c.execute.result was c.requires.room limit ran;
      again =
          adds_again old new c.args.id.now c.execute.result was
          (record { unlimited = was.unlimited; is_open = refl; faults = (refl, refl) }) c.requires.room ran;
      kept = inside_keeps _ _ c.args.tx.now.conn.now c.execute.new.self.conn.now c.execute.result limit ran;
    }
