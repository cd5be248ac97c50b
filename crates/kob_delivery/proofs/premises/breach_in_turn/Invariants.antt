use Rattle.kob_delivery.proofs.InTurn.{HoldSoFar}
use Rattle.kob_delivery.proofs.Words.{take}
use Rattle.kob_delivery.specs.View.{BreaksNone}
use Rattle.kob_delivery.proofs.premises.breach_in_turn.Given as goal

abbrev pub invariant-loop-journal : goal.invariant-loop-journal
invariant-loop-journal l =
    HoldSoFar (BreaksNone l.sender l.taker l.group l.assignment) (take l.journal-index l.journals) l.before
