use Rattle.kob_policy_text.proofs.listing.holder_of.Goals as goal

pub returns-in-None : goal.returns-in-None
returns-in-None c = rw (c.in_ok-user.ensures, c.in-None.is) c.principal_of.ensures.gives
