use Rattle.std.proofs.Common.{◌≡◌, ◌++◌, take, flat_map}
use Rattle.kob_acl_cli.specs.Commands.{rules_on_host}
use Rattle.kob_acl_cli.proofs.rule.push_of_principal.Given as goal

abbrev pub invariant-loop-host : goal.invariant-loop-host
invariant-loop-host l =
    l.made.items ≡ l.initial.made.items
    ++ flat_map (λ host. rules_on_host l.holders.permission l.principal l.access host)
    (take l.host-index l.holders.hosts)
