use Rattle.std.proofs.Common.{flat_map, take, ◌++◌, ◌≡◌}
use Rattle.kob_policy_rows.specs.Json.{file_tokens}
use Rattle.kob_policy_rows.proofs.objects.push_names.Given as goal

abbrev pub invariant-loop-file : goal.invariant-loop-file
invariant-loop-file l =
    (l.writer.tokens ≡ l.initial.writer.tokens ++ flat_map file_tokens (take l.file-index l.files))
    × (l.writer.before ≡ l.initial.writer.before)
