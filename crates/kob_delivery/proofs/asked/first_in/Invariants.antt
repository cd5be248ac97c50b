use Rattle.kob_delivery.proofs.Words.{AllByRecursion, take}
use Rattle.kob_delivery.proofs.asked.first_in.Given as goal

abbrev pub invariant-loop-place : goal.invariant-loop-place
invariant-loop-place g l = AllByRecursion (g.A.Asked.holds l.asked) (take l.place l.journal)
