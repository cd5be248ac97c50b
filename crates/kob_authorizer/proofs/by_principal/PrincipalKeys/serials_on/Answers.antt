use Rattle.kob_authorizer.proofs.Words.{subst, sym, ◌∙◌}
use Rattle.kob_authorizer.specs.Leading.{StandsUnder}
use Rattle.kob_authorizer.proofs.by_principal.PrincipalKeys.serials_on.Goals as goal

pub returns : goal.returns
returns c serial stands =
    (c.in_ok-serials.ensures serial).1
    (subst (λ start. StandsUnder c.args.self.keys.now start serial) (sym (c.as_slice.ensures.value ∙ c.in_ok-start.ensures))
    stands)
