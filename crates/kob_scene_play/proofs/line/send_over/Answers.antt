use Rattle.kob_connections.proofs.Adding.{passes_to}
use Rattle.kob_scene_play.proofs.Services.{ServesSent, journals_sent, same_broker}
use Rattle.kob_scene_play.proofs.line.send_over.Goals as goal

pub returns-clause-same_broker : goal.returns-clause-same_broker
returns-clause-same_broker c =
    let was = c.args.line.now in
    let now = c.tick.new.line in
    let passed =
    passes_to was.server now.server (λ s. s.line) (λ s. s.loss) (λ l. l.server) (λ l. l.calls.made.items)
    (λ l. l.calls.unmade) (ServesSent (λ s. s.below) (λ s. s.is_bare)) was.calls.made.items now.calls.made.items
    c.tick.ensures.line in
    same_broker (λ s. s.below) (λ s. s.is_bare) was.server.line.server now.server.line.server
    was.server.line.calls.made.items now.server.line.calls.made.items passed.0

pub returns-clause-passed : goal.returns-clause-passed
returns-clause-passed c =
    let was = c.args.line.now in
    let now = c.tick.new.line in
    let passed =
    passes_to was.server now.server (λ s. s.line) (λ s. s.loss) (λ l. l.server) (λ l. l.calls.made.items)
    (λ l. l.calls.unmade) (ServesSent (λ s. s.below) (λ s. s.is_bare)) was.calls.made.items now.calls.made.items
    c.tick.ensures.line in
    passed.1

pub returns-clause-journaled : goal.returns-clause-journaled
returns-clause-journaled c =
    let was = c.args.line.now in
    let now = c.tick.new.line in
    let passed =
    passes_to was.server now.server (λ s. s.line) (λ s. s.loss) (λ l. l.server) (λ l. l.calls.made.items)
    (λ l. l.calls.unmade) (ServesSent (λ s. s.below) (λ s. s.is_bare)) was.calls.made.items now.calls.made.items
    c.tick.ensures.line in
    journals_sent (λ s. s.below) (λ s. s.is_bare) was.server.line.server now.server.line.server
    was.server.line.calls.made.items now.server.line.calls.made.items passed.0
