use Rattle.std.proofs.Common.{map, take, ◌≡◌}
use Rattle.kob_policy_rows.specs.Changes.{omission_row}
use Rattle.kob_policy_rows.proofs.changes.omission_rows.Given as goal

abbrev pub invariant-loop-omission : goal.invariant-loop-omission
invariant-loop-omission l = l.rows.items ≡ map omission_row (take l.omission-index l.omissions)
