use Rattle.kob_endpoints.proofs.Words.{RecordsNoRow, subst, ◌++◌}
use Rattle.kob_endpoints.proofs.Runs.{ticked_after}
use Rattle.kob_endpoints.proofs.running_service.RunningService.tick.Goals as goal

pub invariant_of-self : goal.invariant_of-self
invariant_of-self g c =
    let ran = c.self.invariant in
    (ran.0, ticked_after c.self.inside.past.calls _ _ _ _ _ _ _ c.tick.ensures.done ran.0 ran.1)

pub returns-clause-run : goal.returns-clause-run
returns-clause-run g c =
    let earlier = c.self.inside.past.calls in
    subst (λ s. RecordsNoRow s.relayed (s.earlier ++ g.L.Line.calls s.line) c.tick.new.self
    (earlier ++ g.L.Line.calls c.tick.new.line))
    c.self.view_is (ticked_after earlier _ _ _ _ _ _ _ c.tick.ensures.done)
