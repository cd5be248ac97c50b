use Rattle.kob_router.proofs.Words.{common_steps, arith, dispatch_of}
use Rattle.kob_router.proofs.Runs.{has_hand, holds, idle_then, ready_then, stopped_then, ticks_unknown}
use Rattle.kob_router.proofs.sender.Sender.tick.Goals as goal

pub returns-in-Err-clause-done : goal.returns-in-Err-clause-done
returns-in-Err-clause-done g c = grind (arith, common_steps, ticks_unknown)

pub deliver-requires-clause-full : goal.deliver-requires-clause-full
deliver-requires-clause-full g c =
    has_hand (dispatch_of c.introduce.new.self.target) c.args.outbox.now c.introduce.new.self c.take_in_hand.new.self
    c.in-Ok-true.field-0 c.in-Ok-true.ensures.done c.in-Ok-true.field-0-test

pub deliver-requires-clause-held : goal.deliver-requires-clause-held
deliver-requires-clause-held g c =
    holds c.args.outbox.now c.args.self.now c.introduce.new.self c.take_in_hand.new.self c.in-Ok-true.field-0
    c.in-Ok.ensures.rest c.in-Ok-true.ensures.same c.requires.held c.in-Ok-true.ensures.done c.in-Ok-true.field-0-test

pub returns-in-Ok-true-clause-done : goal.returns-in-Ok-true-clause-done
returns-in-Ok-true-clause-done g c =
    ready_then c.args.outbox.now c.take_in_hand.new.outbox c.args.self.now c.introduce.new.self
    c.take_in_hand.new.self _ _ _ _ c.in-Ok.producer c.in-Ok.ensures.rest c.in-Ok.ensures.made c.requires.held
    c.in-Ok-true.ensures.same c.in-Ok-true.field-0 c.in-Ok-true.ensures.done c.in-Ok-true.field-0-test
    c.deliver.ensures.done

pub returns-in-Ok-false-clause-done : goal.returns-in-Ok-false-clause-done
returns-in-Ok-false-clause-done g c = grind (arith, common_steps, idle_then)

pub returns-in-Err-take_in_hand-clause-done : goal.returns-in-Err-take_in_hand-clause-done
returns-in-Err-take_in_hand-clause-done g c = grind (arith, common_steps, stopped_then)
