use Rattle.std.proofs.Common.{◌≡◌, ◌++◌, map}
use Rattle.std.specs.Vec.Iter.{into_iter_items}
use Rattle.kob_acl_cli.specs.Commands.{draft_of}
use Rattle.kob_acl_cli.proofs.commands.creation.Given as goal

abbrev pub invariant-loop-rule : goal.invariant-loop-rule
invariant-loop-rule l =
    (l.yielded ++ into_iter_items l.rule-iterator ≡ into_iter_items l.initial.rule-iterator)
    × (l.drafts.items ≡ map draft_of l.yielded)
