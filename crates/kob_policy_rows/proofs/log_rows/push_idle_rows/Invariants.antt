-- What there is so far, and then that of the rest, is that of all.
use Rattle.std.proofs.Common.{drop, nat_eq, ◌++◌, ◌≡◌}
use Rattle.std.specs.HashSet.{contains}
use Rattle.kob_policy_text.specs.Numbered.{numbered}
use Rattle.kob_policy_rows.specs.Logs.{idle_row}
use Rattle.kob_policy_rows.proofs.log_rows.push_idle_rows.Given as goal

abbrev pub invariant-loop-place : goal.invariant-loop-place
invariant-loop-place l =
    l.rows.items ++ numbered (idle_row l.judge (contains nat_eq l.set)) l.place (drop l.place l.serials)
    ≡ l.initial.rows.items ++ numbered (idle_row l.judge (contains nat_eq l.set)) 0 l.serials
