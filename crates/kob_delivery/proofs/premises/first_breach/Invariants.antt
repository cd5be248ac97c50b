use Rattle.kob_delivery.proofs.Words.{AllByRecursion, take}
use Rattle.kob_delivery.proofs.premises.first_breach.Given as goal
use Rattle.kob_delivery.specs.View.{BreaksNone}

abbrev pub invariant-loop-place : goal.invariant-loop-place
invariant-loop-place l =
    AllByRecursion (BreaksNone l.sender l.taker l.group l.assignment) (take l.place l.journal)
