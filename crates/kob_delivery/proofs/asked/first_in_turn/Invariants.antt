use Rattle.kob_delivery.proofs.InTurn.{HoldSoFar}
use Rattle.kob_delivery.proofs.Words.{take}
use Rattle.kob_delivery.proofs.asked.first_in_turn.Given as goal

abbrev pub invariant-loop-journal : goal.invariant-loop-journal
invariant-loop-journal g l =
    HoldSoFar (g.A.Asked.holds l.asked) (take l.journal-index l.journals) l.before
