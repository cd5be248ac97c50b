use Rattle.kob_endpoints.proofs.Words.{RecordsNoRow, subst, ◌++◌}
use Rattle.kob_endpoints.proofs.Runs.{swept}
use Rattle.kob_endpoints.proofs.running_service.RunningService.sweep.Goals as goal

pub invariant_of-self-2 : goal.invariant_of-self-2
invariant_of-self-2 g c =
    let ran = c.self.invariant in
    (ran.0, swept c.self.inside.relay c.sweep.new.self _ c.in_ok-sweep.ensures.ok ran.0 ran.1)

pub returns-clause-run : goal.returns-clause-run
returns-clause-run g c =
    let calls = c.self.inside.past.calls ++ g.L.Line.calls c.self.inside.line in
    subst (λ s. RecordsNoRow s.relayed (s.earlier ++ g.L.Line.calls s.line) c.sweep.new.self calls) c.self.view_is
    (swept c.self.inside.relay c.sweep.new.self calls c.in_ok-sweep.ensures.ok)
