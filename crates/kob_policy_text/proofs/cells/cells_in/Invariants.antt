-- What the bytes that are left make of the cells so far, all make of none.
use Rattle.kob_policy_text.proofs.Words.{drop, no_cells, read_cells, ◌≡◌}
use Rattle.kob_policy_text.proofs.cells.cells_in.Given as goal

abbrev pub invariant-loop-byte : goal.invariant-loop-byte
invariant-loop-byte l = read_cells l.cells (drop l.byte-index l.line) ≡ read_cells no_cells l.line
