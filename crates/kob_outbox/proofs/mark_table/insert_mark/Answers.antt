use Rattle.kob_outbox.proofs.statements.Words.{database, memory_is_clean}
use Rattle.kob_outbox.proofs.Sweeping.{begins}
use Rattle.kob_outbox.proofs.mark_table.insert_mark.Goals as goal

pub returns : goal.returns
returns c =
    let it = begins (database c.args.conn.now) (database c.execute.new.self) c.execute.result c.requires
    c.execute.ensures.survives.limit (c.execute.ensures.runs (memory_is_clean c.execute.new.self)) in
    record { service = it.0; empty = it.1 }
