use Rattle.kob_inbox.proofs.Words.{IsSome, cursor_of, drop, take, with_cursor, ◌++◌, ◌≡◌}
use Rattle.kob_inbox.proofs.cursors.set.Given as goal

abbrev pub invariant-loop-i : goal.invariant-loop-i
invariant-loop-i l = record {
  same : l.cursors ≡ l.fn.cursors;
  rest : take l.i l.cursors ++ with_cursor (drop l.i l.cursors)
      (record { place = l.place; position = l.position; uncommitted = l.uncommitted })
      ≡ with_cursor l.cursors (record { place = l.place; position = l.position; uncommitted = l.uncommitted });
  some : IsSome (cursor_of (drop l.i l.cursors) l.place);
}
