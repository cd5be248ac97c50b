use Rattle.kob_inbox.proofs.Words.{map, placed_intake, shown_intake, take, ◌≡◌}
use Rattle.kob_inbox.proofs.rows.rows_of.Given as goal

abbrev pub invariant-loop-row : goal.invariant-loop-row
invariant-loop-row l = map (λ r. shown_intake (placed_intake r)) l.out.items ≡ take l.row-index l.rows
