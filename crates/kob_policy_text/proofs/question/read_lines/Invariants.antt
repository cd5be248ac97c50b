-- What the rest adds to what was read so far is what all lines add.
use Rattle.kob_policy_text.proofs.Words.{length, lines_from, lines_in, ◌+◌, ◌≡◌, ◌≤◌}
use Rattle.kob_policy_text.proofs.question.read_lines.Given as goal

abbrev pub invariant-loop-line : goal.invariant-loop-line
invariant-loop-line l = record {
  few : l.number + length l.line-iterator ≤ length l.fn.text;
  rest : lines_from l.are_names l.questions (l.number + 1) l.line-iterator
      ≡ lines_from l.are_names l.fn.questions 1 (lines_in l.fn.text);
}
