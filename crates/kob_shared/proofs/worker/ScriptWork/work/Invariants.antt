use Rattle.kob_shared.proofs.Words.{event_by, map, take, ◌≡◌}
use Rattle.kob_shared.proofs.worker.ScriptWork.work.Given as goal

abbrev pub invariant-loop-request : goal.invariant-loop-request
invariant-loop-request g l =
    (l.desk.seat.principal ≡ l.self.principal) × (l.desk.seat.host ≡ l.self.host)
    × (l.desk.noted.events ≡ map (event_by l.self.principal l.self.host) (take l.request-index l.request-items))
