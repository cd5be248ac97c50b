use Rattle.kob_endpoints.proofs.Words.{ap, sym, ◌++◌, ◌∙◌}
use Rattle.kob_endpoints.proofs.Runs.{begun, consumer_begins, no_call}
use Rattle.kob_endpoints.proofs.running_consumer.RunningConsumer.new.Goals as goal

pub invariant_of-result : goal.invariant_of-result
invariant_of-result g c =
    let made = g.L.Line.calls c.args.line in
    let receiver = c.new-receiver in
    consumer_begins receiver.result.fetcher receiver.result.inbox (c.none-past.result.calls ++ made)
    (receiver.ensures.state ∙ ap begun (sym receiver.ensures.inbox))
    (receiver.ensures.inbox ∙ c.requires.empty)
    (no_call c.none-past.result.calls made c.none-past.ensures c.requires.unused)
