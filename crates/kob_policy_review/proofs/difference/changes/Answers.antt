use Rattle.std.proofs.Common.{arith}
use Rattle.std.proofs.lemmas.Grind.{common_steps}
use Rattle.kob_policy_review.proofs.Changing.{lists_changes}
use Rattle.kob_policy_review.specs.Difference.{changes_of}
use Rattle.kob_policy_review.proofs.difference.changes.Goals as goal

pub returns-clause-exact : goal.returns-clause-exact
unfolding changes_of
returns-clause-exact c =
    lists_changes c.args.before.now.contents c.args.after.now.contents c.push_all.new.out.items
    (grind (arith, common_steps))
