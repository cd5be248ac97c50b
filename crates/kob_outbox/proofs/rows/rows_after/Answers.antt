use Rattle.kob_outbox.proofs.statements.Words.{IfOk-weaker, arith, common_steps, contents_of, database, first_after, map, map-map, shown_event, stored_row, ◌≡◌}
use Rattle.kob_outbox.proofs.Reading.{first_shown, rows_as}
use Rattle.kob_outbox.proofs.rows.rows_after.Goals as goal

pub rows_of-requires : goal.rows_of-requires
rows_of-requires c = grind (arith, common_steps, first_shown)

pub returns-clause-rows : goal.returns-clause-rows
returns-clause-rows c =
    let events = (contents_of (database c.args.conn.now)).events in
    let is : c.in_ok-select_after.field-0.items ≡ map shown_event (first_after c.min.result c.args.limit events) =
    rw (c.number-seq.ensures, c.number.ensures) at c.in_ok-select_after.ensures.rows in
    IfOk-weaker c.rows_of.result _ _ (λ rows h. rows_as c.args.seq c.args.limit events (map stored_row rows.items)
    c.requires.holds.readable (grind (arith, common_steps, map-map shown_event stored_row rows.items, h)))
    c.rows_of.ensures.rows
