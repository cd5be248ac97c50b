use Rattle.std.proofs.Common.{[], ap, ◌∙◌}
use Rattle.kob_inbox.specs.Run.{State}
use Rattle.kob_connections.specs.Received.{Received}
use Rattle.kob_connections.proofs.receiver.Receiver.restart.Goals as goal

pub returns-clause-done : goal.returns-clause-done
returns-clause-done c = c.restart.ensures.done c.self.inside.inbox ∙ ap restarted c.self.view_is
  where
    restarted : Received → State
    restarted r = record { inbox = r.inbox; cursors = []; turn = 0 }
