-- The events so far, and then the requests that are left, are those of the script.
use Rattle.kob_script.proofs.Imports.{length, ◌++◌, ◌+◌, ◌≡◌}
use Rattle.kob_script.proofs.script.all_events.Given as goal

abbrev pub invariant-loop : goal.invariant-loop
invariant-loop l = record {
  given : l.events.items ++ l.requests ≡ l.fn.requests;
  count : l.counter + length l.requests ≡ l.end;
}
