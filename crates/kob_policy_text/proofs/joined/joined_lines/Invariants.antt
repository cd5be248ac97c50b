-- What was made, and what the lines that are left make, is what all make.
use Rattle.kob_policy_text.proofs.Words.{length, lines_in, ◌++◌, ◌+◌, ◌≡◌, ◌≤◌}
use Rattle.kob_policy_text.specs.Joined.{joined_from, joined_lines}
use Rattle.kob_policy_text.proofs.joined.joined_lines.Given as goal

abbrev pub invariant-loop-line : goal.invariant-loop-line
invariant-loop-line l = record {
  few : l.number + length l.line-iterator ≤ length l.fn.text;
  kept : l.made.items ++ joined_from l.held (l.number + 1) l.line-iterator ≡ joined_lines (lines_in l.fn.text);
}
