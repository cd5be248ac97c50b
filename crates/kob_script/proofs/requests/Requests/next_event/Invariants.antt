-- What is left is what was left. No request was read.
use Rattle.kob_script.proofs.Imports.{IsOk, length, lines_ask, requests_left, steps_left, ◌≡◌}
use Rattle.kob_script.proofs.requests.Requests.next_event.Given as goal

abbrev pub invariant-loop-alloc : goal.invariant-loop-alloc
invariant-loop-alloc l = record {
  checked : IsOk (lines_ask l.self-inside.blocks l.self-inside.answers.items);
  count : l.self-inside.left ≡ length (requests_left l.self-inside);
  same : requests_left l.self-inside ≡ l.fn.self;
}

abbrev pub decreases-loop-alloc : goal.decreases-loop-alloc
decreases-loop-alloc l = steps_left l.self-inside.blocks
