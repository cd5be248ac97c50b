use Rattle.kob_authorizer.proofs.Words.{arith}
use Rattle.kob_authorizer.proofs.Lists.{brought_first}
use Rattle.kob_authorizer.proofs.entry_list.bring_first.Goals as goal

pub returns-clause-rest : goal.returns-clause-rest
returns-clause-rest c =
    brought_first c.args.first c.args.place _ _ c.args.slots.now c.rotate_right.new.self c.requires (omega arith)
    (omega arith) c.rotate_right.ensures.after
