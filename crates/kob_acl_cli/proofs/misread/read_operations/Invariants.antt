use Rattle.std.proofs.Common.{◌≡◌, [], take}
use Rattle.std.specs.List.{filter}
use Rattle.kob_acl_cli.specs.Commands.{is_no_operation, operations_named}
use Rattle.kob_acl_cli.proofs.misread.read_operations.Given as goal

abbrev pub invariant-loop-word : goal.invariant-loop-word
invariant-loop-word l =
    (filter is_no_operation (take l.word-index l.words) ≡ [])
    × (l.operations.items ≡ operations_named (take l.word-index l.words))
