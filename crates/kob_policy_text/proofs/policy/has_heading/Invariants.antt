-- Some line that is left is a heading exactly if some line is.
use Rattle.kob_policy_text.proofs.Words.{has_heading, is_heading_line, list_any, ◌≡◌}
use Rattle.kob_policy_text.proofs.policy.has_heading.Given as goal

abbrev pub invariant-loop-line : goal.invariant-loop-line
invariant-loop-line l = list_any is_heading_line l.line-iterator ≡ has_heading l.fn.text
