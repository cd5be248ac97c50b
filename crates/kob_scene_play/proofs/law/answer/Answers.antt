use Rattle.kob_scene_play.proofs.Words.{rules}
use Rattle.kob_scene_play.proofs.Answered.{answered}
use Rattle.kob_scene_play.proofs.law.answer.Goals as goal

pub returns-clause-done : goal.returns-clause-done
returns-clause-done c =
    answered c.args.sender c.args.taker.now.worker c.args.taker.now.fetcher.subscription c.args.journal.now
    c.args.out.now.told c.number-number.result c.first_breach-breach.result c.args.coverage.now c.args.out.now.text.items
    c.tell.new.self.text.items (search rules)
    (rw c.subscription-subscription.ensures at (rw c.number.ensures at (rw c.as_slice-assignment.ensures at
    c.first_breach-breach.ensures))) (search rules)
