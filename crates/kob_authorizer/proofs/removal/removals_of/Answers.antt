use Rattle.kob_authorizer.proofs.removal.removals_of.Goals as goal

pub returns : goal.returns
returns c = rw (← c.in_ok-patterns.ensures) c.removals_among-removals.ensures
