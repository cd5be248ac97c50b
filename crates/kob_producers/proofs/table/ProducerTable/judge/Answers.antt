use Rattle.kob_producers.proofs.Words.{empty, rules, ◌≡◌}
use Rattle.kob_producers.proofs.Histories.{judged_none, judged_plain}
use Rattle.kob_producers.proofs.table.ProducerTable.judge.Goals as goal

pub returns-in-Some-clause-plain : goal.returns-in-Some-clause-plain
returns-in-Some-clause-plain c =
    λ histories keeps. judged_plain histories c.args.self.now.recent c.args.idem.now c.args.count c.judge.result
    (search rules) keeps

pub returns-in-None-clause-kept : goal.returns-in-None-clause-kept
returns-in-None-clause-kept c =
    let none : c.args.self.now.recent ≡ empty = search rules in
    judged_none c.args.self.now.recent c.args.idem.now c.args.count c.judge_first.result none c.judge_first.ensures

pub returns-in-None-clause-plain : goal.returns-in-None-clause-plain
returns-in-None-clause-plain c =
    let none : c.args.self.now.recent ≡ empty = search rules in
    λ histories keeps. judged_plain histories c.args.self.now.recent c.args.idem.now c.args.count c.judge_first.result
    (judged_none c.args.self.now.recent c.args.idem.now c.args.count c.judge_first.result none c.judge_first.ensures)
    keeps
