-- What the lines that are left add to what was read is what all lines say.
use Rattle.kob_policy_text.proofs.Words.{length, ◌+◌, ◌≡◌, ◌≤◌}
use Rattle.kob_policy_text.specs.LogLines.{log_from, log_of}
use Rattle.kob_policy_text.proofs.log_reading.read_log.Given as goal

abbrev pub invariant-loop-line : goal.invariant-loop-line
invariant-loop-line l = record {
  few : l.number + length l.line-iterator ≤ length l.fn.text;
  rest : log_from (l.number + 1) l.log l.line-iterator ≡ log_of l.fn.text;
}
