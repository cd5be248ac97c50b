use Rattle.std.proofs.Common.{arith}
use Rattle.std.proofs.lemmas.Grind.{common_steps}
use Rattle.kob_policy_review.proofs.Granted.{lists_holdings}
use Rattle.kob_policy_review.specs.Holding.{holdings_of}
use Rattle.kob_policy_review.proofs.holding.rights.Goals as goal

pub returns-clause-exact : goal.returns-clause-exact
unfolding holdings_of
returns-clause-exact c =
    lists_holdings c.args.rules.now.contents c.args.principal.now c.args.host.now c.push_all.new.out.items
    (grind (arith, common_steps))
