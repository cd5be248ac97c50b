use Rattle.kob_connections.proofs.Words.{None, Relayed, State, [], ap, ◌∙◌}
use Rattle.kob_connections.proofs.relay.Relay.restart.Goals as goal

abbrev begun : Relayed → State
begun r = record { outbox = r.outbox; producer = None; sequences = []; hand = None }

pub returns-clause-done : goal.returns-clause-done
returns-clause-done c = c.restart.ensures.done c.self.inside.outbox ∙ ap begun c.self.view_is
