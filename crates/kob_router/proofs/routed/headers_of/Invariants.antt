use Rattle.kob_router.proofs.Words.{id_header, map, placed_header, stored_row, take, ◌∷◌, ◌≡◌}
use Rattle.kob_router.proofs.routed.headers_of.Given as goal

-- the id's header, and one for each entry so far
abbrev pub invariant-loop-entry : goal.invariant-loop-entry
invariant-loop-entry l = l.headers.items ≡ id_header (stored_row l.row) ∷ map (placed_header (stored_row l.row))
    (take l.entry-index l.entry-items)
