use Rattle.kob_endpoints.proofs.Words.{RecordsNoRow, ◌++◌, ◌≡◌}
use Rattle.kob_endpoints.proofs.Endings.{Sending}
use Rattle.kob_endpoints.specs.Running.{at}
use Rattle.kob_endpoints.proofs.running_service.RunningService.send_for.Given as goal

abbrev pub invariant-loop : goal.invariant-loop
invariant-loop g l =
    (l.self.relayed.router.target ≡ l.fn.self.relayed.router.target)
    × (l.self.earlier ≡ l.fn.self.earlier)
    × RecordsNoRow l.fn.self.relayed (l.fn.self.earlier ++ g.L.Line.calls l.fn.self.line) l.self.relayed
    (l.self.earlier ++ g.L.Line.calls l.self.line)
    × g.L.Line.becomes l.fn.self.line l.self.line
    × Sending l.counter (at l.fn.self.relayed (g.L.Line.calls l.fn.self.line) (g.L.Line.unmade l.fn.self.line))
    (at l.self.relayed (g.L.Line.calls l.self.line) (g.L.Line.unmade l.self.line))
    × (l.counter ≡ 0 → l.self ≡ l.fn.self)
