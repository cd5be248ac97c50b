use Rattle.kob_outbox.proofs.statements.Words.{database, memory_is_clean, number_in, refl}
use Rattle.kob_outbox.proofs.Sweeping.{moves}
use Rattle.kob_outbox.proofs.mark_table.update_mark.Goals as goal

pub returns : goal.returns
returns c =
    let it =
    moves (database c.args.conn.now) (database c.execute.new.self) (number_in c.args.upto.now) c.execute.result
    c.requires.service c.requires.within c.execute.ensures.survives.limit refl
    (rw (c.params-to_sql.ensures, c.requires.number) at
    (c.execute.ensures.runs (memory_is_clean c.execute.new.self))) in
    record { service = it.0; ok = it.1; err = it.2 }
