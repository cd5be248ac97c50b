-- The members so far, and then the others, are all members.
use Rattle.std.proofs.Common.{drop, flat_map, zip, ◌++◌, ◌≡◌}
use Rattle.kob_policy_rows.specs.Json.{member_tokens}
use Rattle.kob_policy_rows.proofs.objects.push_members.Given as goal

abbrev pub invariant-loop-column : goal.invariant-loop-column
invariant-loop-column l =
    (l.writer.tokens ++ flat_map member_tokens (zip (drop l.column-index l.columns) l.cells)
    ≡ l.initial.writer.tokens ++ flat_map member_tokens (zip l.columns l.row))
    × (l.writer.before ≡ l.initial.writer.before)
