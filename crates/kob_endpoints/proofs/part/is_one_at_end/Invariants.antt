use Rattle.kob_endpoints.proofs.Words.{[], take}
use Rattle.kob_endpoints.specs.Pairing.{Reaches, left}
use Rattle.kob_endpoints.proofs.part.is_one_at_end.Given as goal

abbrev pub invariant-loop-from : goal.invariant-loop-from
invariant-loop-from l = Reaches (left l.own) (take l.from-index l.places) [] → ⊥
