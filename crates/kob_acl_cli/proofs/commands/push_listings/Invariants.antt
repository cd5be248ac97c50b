use Rattle.std.proofs.Common.{◌≡◌, ◌++◌, map, take}
use Rattle.kob_acl_cli.specs.Commands.{listing}
use Rattle.kob_acl_cli.proofs.commands.push_listings.Given as goal

abbrev pub invariant-loop-principal : goal.invariant-loop-principal
invariant-loop-principal l =
    l.made.items ≡ l.initial.made.items ++ map (listing l.target) (take l.principal-index l.principals)
