use Rattle.kob_endpoints.proofs.Runs.{consumer_restarted}
use Rattle.kob_endpoints.proofs.running_consumer.RunningConsumer.restart.Goals as goal

pub invariant_of-self : goal.invariant_of-self
invariant_of-self g c =
    consumer_restarted c.self.inside.receiver.fetcher c.restart.new.self.fetcher _ _ _ c.restart.ensures.same
    c.restart.ensures.done c.self.invariant
