use Rattle.kob_connections.proofs.Words.{Relayed, ap, ◌∙◌}
use Rattle.kob_connections.proofs.Relaying.{holds_none}
use Rattle.kob_connections.proofs.relay.Relay.set_mark.Goals as goal

pub invariant_of-self : goal.invariant_of-self
invariant_of-self c =
    holds_none (record { outbox = c.set_mark.new.self; router = c.self.inside.router })
    (ap (λ (r : Relayed). r.router.hand) c.self.view_is ∙ c.requires)
