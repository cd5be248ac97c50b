use Rattle.kob_inbox.proofs.Words.{arrival_from, database, intake_of, memory_is_clean, option_copied, refl, rules, ◌≡◌}
use Rattle.kob_inbox.proofs.Intakes.{takes, takes_again, bound_key, lent_key}
use Rattle.kob_inbox.proofs.inbox_table.insert_intake.Goals as goal

pub returns : goal.returns
returns c =
    let old = database c.args.conn.now in let new = database c.execute.new.self in let was = c.requires.inbox in
    let e = intake_of c.args.id.now (arrival_from c.args.origin.now c.args.message.now) in
    let key_is : option_copied c.map-key.result ≡ c.args.message.now.key = search rules in
    let ran =
    rw (
      c.params-to_sql.ensures,
      c.params-to_sql-2.ensures,
      c.params-to_sql-3.ensures,
      c.params-to_sql-4.ensures,
      c.params-to_sql-5.ensures,
      c.params-to_sql-6.ensures,
      c.params-to_sql-7.ensures,
      lent_key c.map-key.result,
      key_is,
      bound_key c.args.message.now.key,
      c.as_slice-value.ensures,
      c.number-partition.ensures,
      c.number-offset.ensures,
      c.requires.place,
    ) at (c.execute.ensures.runs (memory_is_clean c.execute.new.self)) in
    let it =
    takes old new e c.execute.result was c.requires.readable c.requires.room c.execute.ensures.survives.limit refl ran in
    record {
      inbox = it.0;
      ok = it.1;
      seen = it.2;
      fresh = it.3;
      err = it.4;
      again =
          takes_again old new e c.execute.result was
          (record { unlimited = was.unlimited; is_open = refl; faults = (refl, refl) }) c.requires.room ran;
    }
