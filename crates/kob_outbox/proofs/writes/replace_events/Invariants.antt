use Rattle.kob_outbox.proofs.statements.Words.{IsChanging, KeepsLast, contents, database, map, stored_row, take, ◌≡◌}
use Rattle.kob_outbox.proofs.writes.replace_events.Given as goal

abbrev pub invariant-loop-row : goal.invariant-loop-row
invariant-loop-row l = record {
  same : l.tx.conn.ghost_name ≡ l.fn.tx.conn.ghost_name;
  changing : IsChanging (database l.tx.conn.now);
  put : contents l.tx.conn.now
      ≡ record (contents l.fn.tx.conn.now) { events = map stored_row (take l.row-index l.rows) };
  kept : KeepsLast (database l.fn.tx.conn.now) (database l.tx.conn.now);
}
