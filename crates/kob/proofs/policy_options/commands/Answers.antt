use Rattle.std.proofs.Common.{Ok, codes}
use Rattle.kob.specs.CommandLine.{bound, flag}
use Rattle.kob.proofs.ClapFacts.{conflict_is, need_is}
use Rattle.kob.proofs.policy_options.commands.Goals as goal

pub returns : goal.returns
returns c =
    let commands = flag (codes "commands") in
    conflict_is c.in_ok-conflicts_with.field-0 c.conflicts_with-2.result _ (bound commands)
    (conflict_is c.in_ok-requires_arg.field-0 (Ok c.in_ok-conflicts_with.field-0) _ (bound commands)
    (need_is c.flag.result (Ok c.in_ok-requires_arg.field-0) _ commands c.flag.ensures c.in_ok-requires_arg.ensures)
    c.in_ok-conflicts_with.ensures)
    c.conflicts_with-2.ensures
