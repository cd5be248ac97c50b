use Rattle.kob_endpoints.proofs.Words.{RecordsNoRow, subst, ◌++◌}
use Rattle.kob_endpoints.proofs.Runs.{restarted}
use Rattle.kob_endpoints.proofs.running_service.RunningService.restart.Goals as goal

pub invariant_of-self : goal.invariant_of-self
invariant_of-self g c =
    let ran = c.self.invariant in
    (ran.0, restarted c.self.inside.relay c.restart.new.self _ c.restart.ensures.target c.restart.ensures.done ran.0 ran.1)

pub returns-clause-run : goal.returns-clause-run
returns-clause-run g c =
    let calls = c.self.inside.past.calls ++ g.L.Line.calls c.self.inside.line in
    subst (λ s. RecordsNoRow s.relayed (s.earlier ++ g.L.Line.calls s.line) c.restart.new.self calls) c.self.view_is
    (restarted c.self.inside.relay c.restart.new.self calls c.restart.ensures.target c.restart.ensures.done)
