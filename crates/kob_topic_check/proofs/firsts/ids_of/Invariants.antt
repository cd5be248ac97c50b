use Rattle.std.proofs.Common.{nat_eq, take, ℕ, ◌≡◌}
use Rattle.std.specs.HashSet.{contains}
use Rattle.kob_topic_check.specs.Findings.{has_row}
use Rattle.kob_topic_check.proofs.firsts.ids_of.Given as goal

abbrev pub invariant-loop-row : goal.invariant-loop-row
invariant-loop-row l = (id : ℕ) → contains nat_eq l.ids id ≡ has_row id (take l.row-index l.rows)
