-- What was read stands first.
use Rattle.kob_pipeline.proofs.Words.{IsPrefixOf, later_than, length, map, stored_row, ◌-◌, ◌≡◌}
use Rattle.kob_pipeline.proofs.posting.rows_of.Given as goal

abbrev pub invariant-loop-rows : goal.invariant-loop-rows
invariant-loop-rows l =
    IsPrefixOf (map stored_row l.rows.items) (later_than 0 l.initial.outbox.events) × (l.outbox ≡ l.initial.outbox)

abbrev pub decreases-loop-rows : goal.decreases-loop-rows
decreases-loop-rows l = length (later_than 0 l.initial.outbox.events) - length l.rows.items
