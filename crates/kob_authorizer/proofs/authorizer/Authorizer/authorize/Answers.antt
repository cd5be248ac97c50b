use Rattle.kob_authorizer.proofs.Words.{common_steps, arith, IsRising, State, question_of, subst}
use Rattle.kob_authorizer.proofs.Entries.{are_rising}
use Rattle.kob_authorizer.proofs.Verdicts.{found_super, true_verdict}
use Rattle.kob_authorizer.proofs.authorizer.Authorizer.authorize.Goals as goal

pub returns-then-contains-clause-meaning : goal.returns-then-contains-clause-meaning
returns-then-contains-clause-meaning c = grind (arith, common_steps, found_super)

-- the serials in force rise, so the first binding that hits has the least
pub returns-else-contains-clause-meaning : goal.returns-else-contains-clause-meaning
returns-else-contains-clause-meaning c =
    let rising : IsRising 1 c.args.self.now.contents.entries c.args.self.now.contents.next =
    subst (λ (s : State). IsRising 1 s.contents.entries s.contents.next) c.self.view_is c.self.invariant.1 in
    let question = question_of c.args.who.now c.args.host.now c.args.operation c.args.resource c.args.name.now in
    let meant = true_verdict c.args.self.now.contents question rising in grind (arith, common_steps)

pub verdict-requires-clause-rising : goal.verdict-requires-clause-rising
verdict-requires-clause-rising c = grind (arith, common_steps, are_rising)
