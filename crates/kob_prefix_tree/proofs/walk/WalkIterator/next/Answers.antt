use Rattle.kob_prefix_tree.proofs.Words.{arith, common_steps, seen}
use Rattle.kob_prefix_tree.proofs.WalkLemmas.{step_none, step_child}
use Rattle.kob_prefix_tree.proofs.walk.WalkIterator.next.Goals as goal

pub loop-serial-preserved-in-None-child : goal.loop-serial-preserved-in-None-child
loop-serial-preserved-in-None-child c =
    let here = c.loop-serial.self in let front = c.in-Some-split_first in
    let step = step_none here.serials here.ahead c.in_ok-ahead.ahead front.byte.now front.rest.now in
    grind (arith, common_steps)

pub loop-serial-preserved : goal.loop-serial-preserved
loop-serial-preserved c =
    let here = c.loop-serial.self in let front = c.in-Some-split_first in let child = c.in-Some-child in
    let step = step_child here.serials here.ahead c.in_ok-ahead.ahead front.byte.now front.rest.now c.in_default.ensures.0
    c.in_ok-ahead.was front.ensures.cases.0 (seen child.child) child.ensures.held in
    grind (arith, common_steps)
