use Rattle.std.proofs.Common.{◌≡◌, [], take}
use Rattle.std.specs.List.{filter}
use Rattle.kob_acl_cli.specs.Commands.{is_no_host}
use Rattle.kob_acl_cli.proofs.misread.read_hosts.Given as goal

abbrev pub invariant-loop-word : goal.invariant-loop-word
invariant-loop-word l =
    (filter is_no_host (take l.word-index l.words) ≡ []) × (l.hosts.items ≡ take l.word-index l.words)
