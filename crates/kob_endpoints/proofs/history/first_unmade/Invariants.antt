use Rattle.kob_endpoints.proofs.Words.{take}
use Rattle.kob_delivery.specs.View.{View}
use Rattle.kob_endpoints.specs.History.{AreMade, after_all}
use Rattle.kob_endpoints.specs.Seen.{Shows}
use Rattle.kob_endpoints.proofs.history.first_unmade.Given as goal

abbrev pub invariant-loop-place : goal.invariant-loop-place
invariant-loop-place l = (v : View) → Shows v l.fn.seen
    → AreMade v (take l.place l.journal) × Shows (after_all v (take l.place l.journal)) l.seen
