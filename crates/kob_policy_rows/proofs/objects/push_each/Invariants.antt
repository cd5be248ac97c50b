use Rattle.std.proofs.Common.{flat_map, take, ◌++◌, ◌≡◌}
use Rattle.kob_policy_rows.specs.Json.{row_tokens}
use Rattle.kob_policy_rows.proofs.objects.push_each.Given as goal

abbrev pub invariant-loop-row : goal.invariant-loop-row
invariant-loop-row l =
    (l.writer.tokens ≡ l.initial.writer.tokens ++ flat_map (row_tokens l.columns) (take l.row-index l.rows))
    × (l.writer.before ≡ l.initial.writer.before)
