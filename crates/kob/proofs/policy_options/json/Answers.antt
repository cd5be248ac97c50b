use Rattle.std.proofs.Common.{Ok, codes}
use Rattle.kob.specs.CommandLine.{bound, flag}
use Rattle.kob.proofs.ClapFacts.{conflict_is}
use Rattle.kob.proofs.policy_options.json.Goals as goal

pub returns : goal.returns
returns c =
    let json = flag (codes "json") in
    conflict_is c.in_ok-conflicts_with.field-0 c.conflicts_with-2.result _ (bound json)
    (conflict_is c.flag.result (Ok c.in_ok-conflicts_with.field-0) _ json c.flag.ensures c.in_ok-conflicts_with.ensures)
    c.conflicts_with-2.ensures
