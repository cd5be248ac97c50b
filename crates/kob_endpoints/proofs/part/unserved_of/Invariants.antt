use Rattle.kob_endpoints.proofs.Words.{length, take, ◌<◌}
use Rattle.kob_endpoints.proofs.Servings.{LeadTo}
use Rattle.kob_endpoints.specs.Pairing.{left, told_by}
use Rattle.kob_endpoints.proofs.part.unserved_of.Given as goal

abbrev pub invariant-loop-number : goal.invariant-loop-number
invariant-loop-number l =
    (0 < length l.places.items) × LeadTo (left l.own) (told_by l.own) (take l.number l.calls) l.places.items
