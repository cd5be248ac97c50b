use Rattle.std.proofs.Common.{◌≡◌, ◌++◌, take, flat_map}
use Rattle.kob_acl_cli.specs.Commands.{rules_of_principal}
use Rattle.kob_acl_cli.proofs.rule.push_rules.Given as goal

abbrev pub invariant-loop-principal : goal.invariant-loop-principal
invariant-loop-principal l =
    l.made.items ≡ l.initial.made.items
    ++ flat_map (λ principal. rules_of_principal l.holders.permission l.holders.hosts l.access principal)
    (take l.principal-index l.holders.principals)
