use Rattle.std.proofs.Common.{◌≡◌, ◌++◌, take}
use Rattle.kob_acl_cli.specs.Commands.{targets_named}
use Rattle.kob_acl_cli.proofs.target.push_named.Given as goal

abbrev pub invariant-loop-name : goal.invariant-loop-name
invariant-loop-name l =
    l.made.items ≡ l.initial.made.items ++ targets_named l.kind l.pattern (take l.name-index l.names)
