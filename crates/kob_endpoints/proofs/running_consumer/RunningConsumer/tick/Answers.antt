use Rattle.kob_endpoints.proofs.Runs.{consumer_ticked}
use Rattle.kob_endpoints.proofs.running_consumer.RunningConsumer.tick.Goals as goal

pub invariant_of-self : goal.invariant_of-self
invariant_of-self g c =
    consumer_ticked c.self.inside.past.calls c.self.inside.receiver.fetcher c.tick.new.self.fetcher _ _ _ _ _ _ _
    c.tick.ensures.same c.tick.ensures.done c.self.invariant
