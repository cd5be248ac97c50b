use Rattle.std.proofs.Common.{◌≡◌, ◌++◌, map}
use Rattle.std.specs.Vec.Iter.{into_iter_items}
use Rattle.kob_acl_cli.specs.Commands.{removal_on}
use Rattle.kob_acl_cli.proofs.commands.removals_on.Given as goal

abbrev pub invariant-loop-target : goal.invariant-loop-target
invariant-loop-target l =
    (l.yielded ++ into_iter_items l.target-iterator ≡ into_iter_items l.initial.target-iterator)
    × (l.made.items ≡ map removal_on l.yielded)
