use Rattle.kob_outbox.proofs.statements.Words.{map, shown_event, stored_row, take, ◌≡◌}
use Rattle.kob_outbox.proofs.rows.rows_of.Given as goal

abbrev pub invariant-loop-row : goal.invariant-loop-row
invariant-loop-row l = map (λ r. shown_event (stored_row r)) l.out.items ≡ take l.row-index l.rows
