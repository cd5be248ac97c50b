-- What there is so far, and then that of the rest, is that of all.
use Rattle.std.proofs.Common.{drop, nat_eq, ◌++◌, ◌≡◌}
use Rattle.std.specs.HashSet.{contains}
use Rattle.kob_policy_text.specs.Numbered.{numbered}
use Rattle.kob_policy_text.specs.LogAnswers.{idle_line}
use Rattle.kob_policy_text.proofs.log_answer.push_idle_lines.Given as goal

abbrev pub invariant-loop-place : goal.invariant-loop-place
invariant-loop-place l =
    l.out.items ++ numbered (idle_line l.judge (contains nat_eq l.set)) l.place (drop l.place l.serials)
    ≡ l.initial.out.items ++ numbered (idle_line l.judge (contains nat_eq l.set)) 0 l.serials
