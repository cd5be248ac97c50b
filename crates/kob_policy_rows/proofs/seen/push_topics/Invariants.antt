use Rattle.std.proofs.Common.{flat_map, take, ◌++◌, ◌≡◌}
use Rattle.kob_policy_rows.specs.Answers.{seen_rows}
use Rattle.kob_policy_rows.proofs.seen.push_topics.Given as goal

abbrev pub invariant-loop-topic : goal.invariant-loop-topic
invariant-loop-topic l =
    l.rows.items ≡ l.initial.rows.items ++ flat_map (seen_rows l.judge l.asker) (take l.topic-index l.topics)
