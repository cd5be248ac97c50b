use Rattle.kob_authorizer.proofs.Words.{common_steps, arith, question_view}
use Rattle.kob_authorizer.proofs.Verdicts.{none_given}
use Rattle.kob_authorizer.proofs.look_up.verdict.Goals as goal

pub returns-in-None-allow : goal.returns-in-None-allow
returns-in-None-allow c =
    let given = none_given c.args.index.now c.args.entries.now c.requires.indexed (question_view c.args.question.now)
    in
    grind (arith, common_steps)

pub returns-in-None-2 : goal.returns-in-None-2
returns-in-None-2 c =
    let given = none_given c.args.index.now c.args.entries.now c.requires.indexed (question_view c.args.question.now)
    in
    grind (arith, common_steps)
