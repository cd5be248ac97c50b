use Rattle.kob_connections.proofs.Relaying.{holds_recorded}
use Rattle.kob_connections.proofs.relay.Relay.record.Goals as goal

pub invariant_of-self : goal.invariant_of-self
invariant_of-self c =
    let was = c.self.inside in
    let made = c.record.ensures in
    holds_recorded (record { outbox = was.outbox; router = was.router }) c.record.new.self c.args.change.now
    c.args.event.now c.record.result c.self.invariant made.ok made.err
