use Rattle.kob_endpoints.proofs.Words.{served_to, take, ◌≡◌}
use Rattle.kob_delivery.specs.InTurn.{entries_of}
use Rattle.kob_endpoints.specs.Pairing.{told_by}
use Rattle.kob_endpoints.proofs.part.own_entries.Given as goal

abbrev pub invariant-loop-journal : goal.invariant-loop-journal
invariant-loop-journal l =
    told_by l.own.items ≡ served_to l.fn.worker (entries_of (take l.journal-index l.journals))
