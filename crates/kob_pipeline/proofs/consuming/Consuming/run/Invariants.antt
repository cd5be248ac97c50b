use Rattle.kob_pipeline.proofs.Words.{IsConsumerStep, Leads, Steps, with_desk, take, ◌≡◌}
use Rattle.kob_connections.specs.Received.{received_state}
use Rattle.kob_pipeline.proofs.consuming.Consuming.run.Given as goal

abbrev pub invariant-loop-step : goal.invariant-loop-step
invariant-loop-step g l =
    (l.line.calls.unmade ≡ 0)
    × (l.self.receiver.fetcher.subscription ≡ l.fn.self.receiver.fetcher.subscription)
    × Leads (Steps (IsConsumerStep l.fn.self.receiver.fetcher.subscription))
    (with_desk (received_state l.fn.self.receiver) l.fn.line.desk)
    (take l.step-index l.steps)
    (with_desk (received_state l.self.receiver) l.line.desk)
