-- What the lines that are left may make, after the policy so far, all may make.
use Rattle.kob_policy_text.proofs.Words.{drop}
use Rattle.kob_policy_text.proofs.Making.{Leads}
use Rattle.kob_policy_text.proofs.reading.read_lines.Given as goal

abbrev pub invariant-loop-line : goal.invariant-loop-line
invariant-loop-line l = Leads l.fn.file l.fn.policy l.policy l.fn.lines (drop l.line-index l.lines)
