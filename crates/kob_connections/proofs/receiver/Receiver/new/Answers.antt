use Rattle.kob_connections.proofs.receiver.Receiver.new.Goals as goal

pub returns-clause-state : goal.returns-clause-state
returns-clause-state c = c.new.ensures.state c.args.inbox
