-- The files that were passed are copied.
use Rattle.std.proofs.Common.{take, ◌++◌, ◌≡◌}
use Rattle.kob.proofs.policy_answers.push_copies.Given as goal

abbrev pub invariant-loop-file : goal.invariant-loop-file
invariant-loop-file l =
    l.names.items ≡ l.initial.names.items ++ take l.file-index l.files
