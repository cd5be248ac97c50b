use Rattle.kob_broker.proofs.Words.{ap, ◌∙◌}
use Rattle.kob_broker.proofs.Decisions.{appended_makes}
use Rattle.kob_broker.specs.declared.prepared.Change.TheVariants.{Append}
use Rattle.kob_broker.proofs.broker.Broker.prepare_produce.Goals as goal

pub returns-in_ok-copy-in-Appended-clause-ok : goal.returns-in_ok-copy-in-Appended-clause-ok
returns-in_ok-copy-in-Appended-clause-ok c =
    let done = c.done-in-Appended in
    appended_makes c.outcome.new.self c.args.produce.now _ c.in-Appended.offset done.result c.in-Appended.is
    done.ensures.reply (done.ensures.change ∙ ap Append c.in_ok-copy-in-Appended.ensures) c.in_ok-reason.ensures.ok
