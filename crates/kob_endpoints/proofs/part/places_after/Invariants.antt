use Rattle.kob_endpoints.proofs.Words.{Call, List, take, ◌↔◌, ◌∷◌}
use Rattle.kob_endpoints.specs.Pairing.{Reaches, left}
use Rattle.kob_endpoints.proofs.part.places_after.Given as goal

abbrev pub invariant-loop-from : goal.invariant-loop-from
invariant-loop-from l = (calls : List Call)
    → Reaches (left l.own) l.then.items calls
    ↔ Reaches (left l.own) (take l.from-index l.places) (l.call ∷ calls)
