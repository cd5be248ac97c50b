use Rattle.kob_router.proofs.router.Router.tick.Goals as goal

-- what is held after the inner tick is the first row
pub returns-clause-first : goal.returns-clause-first
returns-clause-first g c = c.tick.ensures.done.held.0
