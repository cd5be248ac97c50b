use Rattle.std.proofs.Common.{◌≡◌, ◌++◌, take, map}
use Rattle.kob_acl_cli.specs.Commands.{rule}
use Rattle.kob_acl_cli.proofs.rule.push_on_host.Given as goal

abbrev pub invariant-loop-operation : goal.invariant-loop-operation
invariant-loop-operation l =
    l.made.items ≡ l.initial.made.items
    ++ map (λ operation. rule l.permission l.principal l.host l.access.target operation)
    (take l.operation-index l.access.operations)
