use Rattle.kob_delivery.proofs.Words.{AllByRecursion, arith, length, subst, take_all, ◌+◌, ◌≤◌}
use Rattle.kob_delivery.proofs.Breaches.{unbroken}
use Rattle.kob_delivery.proofs.Reserving.{kept_more}
use Rattle.kob_delivery.specs.View.{BreaksNone}
use Rattle.kob_delivery.proofs.premises.first_breach.Goals as goal

pub loop-place-preserved : goal.loop-place-preserved
loop-place-preserved c =
    let place = c.loop-place.place in
    kept_more (BreaksNone c.args.sender c.args.taker c.args.group.now c.args.assignment.now) c.args.journal.now place
    (place + 1) c.entry_at-entry.result.now (omega arith) c.entry_at-entry.ensures c.loop-place.invariant
    c.in_default.ensures

pub returns : goal.returns
returns c =
    let journal = c.args.journal.now in
    let end = c.len-place-end.ensures in
    let past : length journal ≤ c.loop-place.place = omega arith in
    unbroken c.args.sender c.args.taker c.args.group.now c.args.assignment.now journal
    (subst (AllByRecursion (BreaksNone c.args.sender c.args.taker c.args.group.now c.args.assignment.now))
    (take_all c.loop-place.place journal past) c.loop-place.invariant)
