use Rattle.std.proofs.Common.{inr, map, string_bytes, sym, ◌∙◌}
use Rattle.clap.specs.Words.{app_of}
use Rattle.kob.proofs.CommandLines.{task_is}
use Rattle.kob.proofs.options.task_of.Goals as goal

pub returns-in_ok-task_in-in-Ok-clause-task : goal.returns-in_ok-task_in-in-Ok-clause-task
returns-in_ok-task_in-in-Ok-clause-task c =
    let words = map string_bytes c.args.words.now in
    let databases = c.in_ok-command.ensures.0 in
    inr (
      sym c.asks_policy.ensures ∙ c.if-asks_policy.false,
      (
        databases,
        task_is databases (app_of c.in_ok-command.field-0) words c.in-Ok.matches c.in_ok-task_in-in-Ok.field-0
            c.in_ok-command.ensures.1 c.in-Ok.ensures.matches c.in_ok-task_in-in-Ok.ensures,
      ),
    )
