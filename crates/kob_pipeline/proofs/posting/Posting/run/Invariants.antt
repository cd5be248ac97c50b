use Rattle.kob_pipeline.proofs.Words.{IsServiceStep, Leads, Steps, dispatch_of, with_desk, take, ◌≡◌}
use Rattle.kob_connections.specs.Relayed.{relayed_state}
use Rattle.kob_pipeline.proofs.posting.Posting.run.Given as goal

abbrev pub invariant-loop-step : goal.invariant-loop-step
invariant-loop-step g l =
    (l.line.calls.unmade ≡ 0)
    × (l.self.relay.router.target ≡ l.fn.self.relay.router.target)
    × Leads (Steps (IsServiceStep (dispatch_of l.fn.self.relay.router.target)))
    (with_desk (relayed_state l.fn.self.relay) l.fn.line.desk)
    (take l.step-index l.steps)
    (with_desk (relayed_state l.self.relay) l.line.desk)
