use Rattle.kob_broker.proofs.Words.{length, retained_meaning, rules, state_of, ◌<◌}
use Rattle.kob_broker.proofs.Steps.{one_event_more}
use Rattle.kob_broker.proofs.broker.Broker.run.Goals as goal

pub loop-done-preserved : goal.loop-done-preserved
loop-done-preserved c =
    let lt : c.loop-done.done < length c.args.events.now = search rules in
    let more =
    one_event_more retained_meaning c.args.events.now c.loop-done.done c.index-events-done.result
    (state_of c.args.self.now) (state_of c.loop-done.self) (state_of c.serve.new.self)
    c.loop-done.replies.items c.push_reserved.new.self.items c.in-Ok.reply lt c.index-events-done.is
    c.loop-done.invariant.replies c.loop-done.invariant.state
    c.in-Ok.ensures.reply c.in-Ok.ensures.state (search rules) in
    record { count = search rules; replies = more.0; state = more.1 }
