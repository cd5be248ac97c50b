use Rattle.kob_broker.proofs.Words.{length, replies_of, retained_meaning, state_after, state_of, take, ◌≡◌}
use Rattle.kob_broker.proofs.broker.Broker.run.Given as goal

-- the events so far give the replies so far and the state now
abbrev pub invariant-loop-done : goal.invariant-loop-done
invariant-loop-done l = record {
  count : length l.replies.items ≡ l.done;
  replies : l.replies.items ≡ replies_of retained_meaning (take l.done l.events) (state_of l.fn.self);
  state : state_of l.self ≡ state_after retained_meaning (take l.done l.events) (state_of l.fn.self);
}
