use Rattle.kob_router.proofs.Words.{common_steps, arith}
use Rattle.kob_router.proofs.Runs.{ticks_lost, ticks_moved, ticks_rejected, ticks_unmarked}
use Rattle.kob_router.proofs.sender.Sender.deliver.Goals as goal

pub returns-in_default-clause-done : goal.returns-in_default-clause-done
returns-in_default-clause-done g c =
    ticks_lost c.args.self.now c.args.outbox.now c.in-Ok.request c.in-Ok.ensures c.requires.held
    c.in_default.ensures.added

pub returns-in-Ok-acknowledge-clause-done : goal.returns-in-Ok-acknowledge-clause-done
returns-in-Ok-acknowledge-clause-done g c = grind (arith, common_steps, ticks_moved)

pub returns-in-Err-acknowledge-clause-done : goal.returns-in-Err-acknowledge-clause-done
returns-in-Err-acknowledge-clause-done g c = grind (arith, common_steps, ticks_unmarked)

pub returns-in_default-reply-clause-done : goal.returns-in_default-reply-clause-done
returns-in_default-reply-clause-done g c =
    ticks_rejected c.args.self.now c.args.outbox.now c.in-Ok.request c.in-Ok.ensures c.requires.held
    c.in_default-reply.not-Done c.in-Delivered.ensures.added
