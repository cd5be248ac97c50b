use Rattle.std.proofs.Common.{◌≡◌, take}
use Rattle.kob_acl_cli.specs.Commands.{product}
use Rattle.kob_acl_cli.proofs.rule.product.Given as goal

abbrev pub invariant-loop-access : goal.invariant-loop-access
invariant-loop-access l = l.made.items ≡ product l.allowed l.denied (take l.access-index l.accesses)
