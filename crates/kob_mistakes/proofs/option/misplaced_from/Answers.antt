use Rattle.std.proofs.Common.{arith, rules}
use Rattle.kob_mistakes.proofs.Placing.{goes_on, stops}
use Rattle.kob_mistakes.proofs.option.misplaced_from.Goals as goal

pub returns-in-None : goal.returns-in-None
returns-in-None c =
    stops c.loop-at.is_taken c.loop-at.at c.args.words.now c.index-words-at.result
    c.index-words-at.result _ c.loop-at.invariant c.loop-at-test.true (search (rules, arith))
    (search rules)

pub loop-at-preserved : goal.loop-at-preserved
loop-at-preserved c =
    goes_on c.loop-at.is_taken c.in-Some.is_value c.loop-at.at c.args.words.now c.index-words-at.result
    c.index-words-at.result _ c.loop-at.invariant c.loop-at-test.true (search (rules, arith))
    (search rules)
