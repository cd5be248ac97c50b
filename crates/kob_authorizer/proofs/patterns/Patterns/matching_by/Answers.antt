use Rattle.kob_authorizer.proofs.Words.{Contains, List, held, matching_serials, rules, subst, tree_of, ℕ, ◌≡◌}
use Rattle.kob_authorizer.proofs.Leading.{matching_lead}
use Rattle.kob_authorizer.proofs.patterns.Patterns.matching_by.Goals as goal

pub returns-in_ok-serials-in-Some-Some : goal.returns-in_ok-serials-in-Some-Some
returns-in_ok-serials-in-Some-Some c =
    let patterns = c.args.self.now in let resource = c.in-Some-Some.resource in let name = c.in-Some-Some.name in
    let looked_up : matching_serials (held (tree_of patterns resource)) name
    ≡ matching_serials (held c.tree.result.now) c.as_bytes.result.now = search rules in
    matching_lead patterns c.args.filter.now resource name c.in_ok-serials-in-Some-Some.serials.items c.requires
    (search rules) (search rules) c.in_ok-serials-in-Some-Some.ensures.rising
    (λ serial there. c.in_ok-serials-in-Some-Some.ensures.all serial
    (subst (λ (xs : List ℕ). Contains xs serial) looked_up there))
