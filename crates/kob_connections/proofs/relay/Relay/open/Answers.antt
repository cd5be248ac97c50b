use Rattle.kob_connections.proofs.Words.{ap}
use Rattle.kob_connections.proofs.Relaying.{holds_none}
use Rattle.kob_connections.proofs.relay.Relay.open.Goals as goal

pub invariant_of-result : goal.invariant_of-result
invariant_of-result c =
    holds_none (record { outbox = c.in_ok-outbox.outbox; router = c.new-router.result })
    (ap (λ r. r.hand) c.new-router.ensures)
