use Rattle.kob_policy_text.proofs.Words.{flat_map, seen_text, take, ◌++◌, ◌≡◌}
use Rattle.kob_policy_text.proofs.who.push_topics.Given as goal

abbrev pub invariant-loop-topic : goal.invariant-loop-topic
invariant-loop-topic l =
    l.out.items ≡ l.initial.out.items ++ flat_map (seen_text l.judge l.asker) (take l.topic-index l.topics)
