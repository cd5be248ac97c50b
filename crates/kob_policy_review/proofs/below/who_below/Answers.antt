use Rattle.std.proofs.Common.{arith}
use Rattle.std.proofs.lemmas.Grind.{common_steps}
use Rattle.kob_policy_review.proofs.Reaching.{lists_reaches}
use Rattle.kob_policy_review.proofs.Shares.{reaches_so}
use Rattle.kob_policy_review.proofs.below.who_below.Goals as goal

pub returns-clause-exact : goal.returns-clause-exact
returns-clause-exact c =
    lists_reaches c.args.rules.now.contents c.args.operation c.args.resource c.args.prefix.now
    c.push_principals.new.out.items (grind (arith, common_steps, reaches_so))
