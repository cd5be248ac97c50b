use Rattle.std.proofs.Common.{◌≡◌, ◌++◌, take}
use Rattle.kob_acl_cli.specs.Commands.{accesses_to}
use Rattle.kob_acl_cli.proofs.access.push_accesses.Given as goal

abbrev pub invariant-loop-target : goal.invariant-loop-target
invariant-loop-target l =
    l.made.items ≡ l.initial.made.items ++ accesses_to l.operations (take l.target-index l.targets)
