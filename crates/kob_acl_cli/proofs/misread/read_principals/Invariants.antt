use Rattle.std.proofs.Common.{◌≡◌, [], take}
use Rattle.std.specs.List.{filter}
use Rattle.kob_acl_cli.specs.Commands.{is_no_principal}
use Rattle.kob_acl_cli.proofs.misread.read_principals.Given as goal

abbrev pub invariant-loop-word : goal.invariant-loop-word
invariant-loop-word l =
    (filter is_no_principal (take l.word-index l.words) ≡ []) × (l.principals.items ≡ take l.word-index l.words)
