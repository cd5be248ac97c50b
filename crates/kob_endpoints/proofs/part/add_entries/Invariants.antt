use Rattle.kob_endpoints.proofs.Words.{served_to, take, ◌++◌, ◌≡◌}
use Rattle.kob_endpoints.specs.Pairing.{told_by}
use Rattle.kob_endpoints.proofs.part.add_entries.Given as goal

abbrev pub invariant-loop-place : goal.invariant-loop-place
invariant-loop-place l =
    told_by l.own.items ≡ told_by l.fn.own.items ++ served_to l.worker (take l.place l.journal)
