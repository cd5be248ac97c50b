use Rattle.std.proofs.Common.{◌≡◌, ◌++◌, flat_map, take}
use Rattle.kob.specs.Export.{topic_line}
use Rattle.kob.proofs.export.push_topics.Given as goal

abbrev pub invariant-loop-topic : goal.invariant-loop-topic
invariant-loop-topic l =
    l.out.items ≡ l.initial.out.items ++ flat_map (topic_line l.topics) (take l.topic-index l.topics)
