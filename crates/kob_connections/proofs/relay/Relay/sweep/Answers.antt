use Rattle.kob_connections.proofs.Relaying.{holds_swept}
use Rattle.kob_connections.proofs.relay.Relay.sweep.Goals as goal

pub invariant_of-self : goal.invariant_of-self
invariant_of-self c =
    let was = c.self.inside in
    holds_swept (record { outbox = was.outbox; router = was.router }) c.sweep.new.self c.sweep.result
    c.self.invariant c.sweep.ensures.ok c.sweep.ensures.err
