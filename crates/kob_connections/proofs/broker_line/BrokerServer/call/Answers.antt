use Rattle.kob_connections.proofs.Words.{Event, Fits, Request, ap, state_of, subst}
use Rattle.kob_connections.proofs.Adding.{step_fits}
use Rattle.kob_connections.proofs.broker_line.BrokerServer.call.Goals as goal

pub returns-clause-fits : goal.returns-clause-fits
returns-clause-fits c =
    let made = c.in_ok-event in
    let told = c.in_ok-reply in
    subst (λ (request : Request). Fits request told.reply) (ap (λ (e : Event). e.request) made.ensures)
    (step_fits (state_of c.args.self.now.broker.now) made.event told.reply told.ensures.reply)
