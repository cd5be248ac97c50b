use Rattle.kob_endpoints.proofs.Words.{◌<◌, ◌≡◌}
use Rattle.kob_endpoints.proofs.Takings.{Taking}
use Rattle.kob_inbox.specs.Tick.{point_of}
use Rattle.kob_endpoints.proofs.running_consumer.RunningConsumer.take_all.Given as goal

abbrev pub invariant-loop : goal.invariant-loop
invariant-loop g l =
    (l.self.fetcher.subscription ≡ l.fn.self.fetcher.subscription)
    × (l.self.earlier ≡ l.fn.self.earlier)
    × g.L.Line.becomes l.fn.self.line l.self.line
    × (l.idle < l.round)
    × Taking l.fn.self.fetcher.subscription l.round l.counter l.idle
    (point_of l.fn.self.fetcher l.fn.self.inbox (g.L.Line.calls l.fn.self.line) (g.L.Line.unmade l.fn.self.line))
    (point_of l.self.fetcher l.self.inbox (g.L.Line.calls l.self.line) (g.L.Line.unmade l.self.line))
