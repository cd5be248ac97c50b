use Rattle.std.proofs.Common.{ap}
use Rattle.kob.specs.CommandLine.{is_judged}
use Rattle.kob.proofs.running.run_words.Goals as goal

pub returns-in-Ok-Policy : goal.returns-in-Ok-Policy
returns-in-Ok-Policy g c = λ differs.
    (c.in-Ok-Policy.field-0, c.in-Ok-Policy.ensures.task, ap is_judged c.in-Ok-Policy.field-0-is)

pub returns-in-Ok-Topic : goal.returns-in-Ok-Topic
returns-in-Ok-Topic g c = λ differs.
    (c.in-Ok-Topic.field-0, c.in-Ok-Topic.ensures.task, ap is_judged c.in-Ok-Topic.field-0-is)
