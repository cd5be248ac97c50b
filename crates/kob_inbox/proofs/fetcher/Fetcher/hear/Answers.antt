use Rattle.kob_inbox.proofs.Words.{state_of}
use Rattle.kob_inbox.proofs.Ticking.{hears_committed}
use Rattle.kob_inbox.proofs.fetcher.Fetcher.hear.Goals as goal

pub returns-then-standing-clause-done : goal.returns-then-standing-clause-done
returns-then-standing-clause-done c =
    hears_committed c.args.self.now.subscription (state_of c.args.self.now c.args.inbox.now)
    (state_of c.committed.new.self c.args.inbox.now) c.args.place c.args.stood c.in-Some.standing c.args.body
    c.in-Some.is c.if-standing.true c.in-Committed.is (c.committed.ensures.done c.args.inbox.now)
