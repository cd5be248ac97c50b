use Rattle.kob_authorizer.proofs.Words.{Contains, Contains-append_right, arith, subst, sym, ◌++◌, ◌≡◌}
use Rattle.std.proofs.lemmas.Grind.{common_steps}
use Rattle.kob_authorizer.proofs.by_principal.PrincipalKeys.push_on.Goals as goal

pub returns-clause-added : goal.returns-clause-added
returns-clause-added c serial stands =
    let joined : c.extend_from_slice.new.self.items ≡ c.args.serials.now.items ++ c.in_ok-more.more.items =
    grind (arith, common_steps) in
    subst (λ serials. Contains serials serial) (sym joined)
    (Contains-append_right c.args.serials.now.items c.in_ok-more.more.items serial (c.in_ok-more.ensures serial stands))
