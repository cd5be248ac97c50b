use Rattle.std.proofs.Common.{◌≡◌, take}
use Rattle.kob_acl_cli.specs.Commands.{listings_by}
use Rattle.kob_acl_cli.proofs.commands.listings_of.Given as goal

abbrev pub invariant-loop-target : goal.invariant-loop-target
invariant-loop-target l = l.made.items ≡ listings_by l.principals.items (take l.target-index l.targets)
