use Rattle.std.proofs.Common.{arith, subst, sym, ◌∙◌}
use Rattle.std.proofs.lemmas.Grind.{common_steps}
use Rattle.kob_authorizer.specs.Index.{AreRising}
use Rattle.kob_policy_review.proofs.Answering.{lists_answers}
use Rattle.kob_policy_review.proofs.Asking.{still_rising}
use Rattle.kob_policy_review.specs.Classes.{is_on}
use Rattle.kob_policy_review.specs.Granting.{answers_on}
use Rattle.kob_policy_review.proofs.granting.who.Goals as goal

pub of-requires : goal.of-requires
of-requires c =
    subst AreRising (sym (c.as_slice-2.ensures.value ∙ c.in_ok-matching.ensures))
    (still_rising (is_on c.args.target.now) 1 c.args.rules.now.contents.next c.entries.result.now
    c.entries.ensures.rising)

pub returns-clause-exact : goal.returns-clause-exact
unfolding answers_on
returns-clause-exact c =
    lists_answers c.args.rules.now.contents c.args.operation c.args.target.now c.push_principals.new.out.items
    (grind (arith, common_steps))
