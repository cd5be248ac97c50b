use Rattle.kob_producers.proofs.Words.{ap}
use Rattle.kob_producers.proofs.Showing.{judged_by_ring, judged_first}
use Rattle.kob_producers.proofs.rings.Rings.judge.Goals as goal

pub returns-in-Some : goal.returns-in-Some
returns-in-Some c =
    judged_by_ring c.self.inside.kept.entries c.args.self.now.recent c.args.idem.now c.args.count
    c.in-Some.ring.now c.judge_ring.result
    (ap (λ t. t.recent) c.self.view_is) c.in-Some.ensures.value c.judge_ring.ensures

pub returns-in-None : goal.returns-in-None
returns-in-None c =
    judged_first c.self.inside.kept.entries c.args.self.now.recent c.args.idem.now c.args.count
    c.judge_first.result
    (ap (λ t. t.recent) c.self.view_is) c.in-None.ensures.value c.judge_first.ensures
