use Rattle.kob_connections.proofs.Relaying.{holds_stated}
use Rattle.kob_connections.proofs.relay.Relay.set_business.Goals as goal
use Rattle.kob_outbox.specs.Contents.{key_of}
use Rattle.std.specs.Prelude.{string_bytes}

pub invariant_of-self : goal.invariant_of-self
invariant_of-self c =
    let was = c.self.inside in
    let made = c.set_business.ensures in
    holds_stated (record { outbox = was.outbox; router = was.router }) c.set_business.new.self
    (key_of c.args.change.now) (string_bytes c.args.change.now.state) c.set_business.result c.self.invariant
    made.ok made.err
